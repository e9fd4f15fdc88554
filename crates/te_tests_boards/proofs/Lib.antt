mod OneNever
