mod PassesFree
