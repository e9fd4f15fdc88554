-- Texts of several parts, bracketed to the right.
use Rattle.std.proofs.Common.{◌≡◌, ℕ, List, ◌++◌, ◌∙◌, append_assoc}

module _ (a b c : List ℕ) where
  pub parts_4 : (d : List ℕ) → a ++ b ++ c ++ d ≡ a ++ (b ++ (c ++ d))
  parts_4 d = append_assoc (a ++ b) c d ∙ append_assoc a b (c ++ d)

  pub parts_5 : (d e : List ℕ) → a ++ b ++ c ++ d ++ e ≡ a ++ (b ++ (c ++ (d ++ e)))
  parts_5 d e = append_assoc (a ++ b ++ c) d e ∙ parts_4 (d ++ e)

  pub parts_6 : (d e f : List ℕ) → a ++ b ++ c ++ d ++ e ++ f ≡ a ++ (b ++ (c ++ (d ++ (e ++ f))))
  parts_6 d e f = append_assoc (a ++ b ++ c ++ d) e f ∙ parts_5 d (e ++ f)

  pub parts_7 : (d e f g : List ℕ) → a ++ b ++ c ++ d ++ e ++ f ++ g ≡ a ++ (b ++ (c ++ (d ++ (e ++ (f ++ g)))))
  parts_7 d e f g = append_assoc (a ++ b ++ c ++ d ++ e) f g ∙ parts_6 d e (f ++ g)

  pub parts_8 : (d e f g h : List ℕ) → a ++ b ++ c ++ d ++ e ++ f ++ g ++ h ≡ a ++ (b ++ (c ++ (d ++ (e ++ (f ++ (g ++ h))))))
  parts_8 d e f g h = append_assoc (a ++ b ++ c ++ d ++ e ++ f) g h ∙ parts_7 d e f (g ++ h)

  pub parts_9 : (d e f g h i : List ℕ) → a ++ b ++ c ++ d ++ e ++ f ++ g ++ h ++ i ≡ a ++ (b ++ (c ++ (d ++ (e ++ (f ++ (g ++ (h ++ i)))))))
  parts_9 d e f g h i = append_assoc (a ++ b ++ c ++ d ++ e ++ f ++ g) h i ∙ parts_8 d e f g (h ++ i)
