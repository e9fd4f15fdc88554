-- Lists one behind another, grouped from the end.
use Rattle.std.proofs.Common.{◌≡◌, ℕ, List, ◌++◌, ◌∙◌, append_assoc}

pub three : (a b c : List ℕ) → (a ++ b) ++ c ≡ a ++ (b ++ c)
three a b c = append_assoc a b c

pub four : (a b c d : List ℕ) → ((a ++ b) ++ c) ++ d ≡ a ++ (b ++ (c ++ d))
four a b c d = append_assoc (a ++ b) c d ∙ three a b (c ++ d)

pub five : (a b c d e : List ℕ) → (((a ++ b) ++ c) ++ d) ++ e ≡ a ++ (b ++ (c ++ (d ++ e)))
five a b c d e = append_assoc ((a ++ b) ++ c) d e ∙ four a b c (d ++ e)

pub six : (a b c d e f : List ℕ) → ((((a ++ b) ++ c) ++ d) ++ e) ++ f ≡ a ++ (b ++ (c ++ (d ++ (e ++ f))))
six a b c d e f = append_assoc (((a ++ b) ++ c) ++ d) e f ∙ five a b c d (e ++ f)

pub seven : (a b c d e f g : List ℕ) → (((((a ++ b) ++ c) ++ d) ++ e) ++ f) ++ g ≡ a ++ (b ++ (c ++ (d ++ (e ++ (f ++ g)))))
seven a b c d e f g = append_assoc ((((a ++ b) ++ c) ++ d) ++ e) f g ∙ six a b c d e (f ++ g)

pub eight : (a b c d e f g h : List ℕ) → ((((((a ++ b) ++ c) ++ d) ++ e) ++ f) ++ g) ++ h ≡ a ++ (b ++ (c ++ (d ++ (e ++ (f ++ (g ++ h))))))
eight a b c d e f g h = append_assoc (((((a ++ b) ++ c) ++ d) ++ e) ++ f) g h ∙ seven a b c d e f (g ++ h)
