-- Writing a register in the steps left under some registers leaves them under the registers with the new value.
use Rattle.std.proofs.Common.{◌≡◌, ℕ, ◌⊎◌, inl, inr, Bool, true, false, cond, eqb, List, [], ◌∷◌, refl, sym, ap, subst, ◌∙◌}
use Rattle.std.proofs.lemmas.Bool.{eqb-true}
use Rattle.te_terms.specs.declared.value.Atom.{Atom}
use Rattle.te_terms.specs.Expressions.{Variable, register, name, known, in_expression}
use Rattle.te_terms.specs.Terms.{replaced}
use Rattle.te_script.specs.Wishes.{Step, syncing, emitting}
use Rattle.te_script.specs.Cores.{register_to, written, without_register, under}
use Rattle.te_terms.proofs.BindingLaws.{replaced_twice}
use Rattle.te_terms.proofs.BindingLaws.{expression_twice}

-- each register keeps its name or has a value; names and values stay
pub record IsPartial (f : Variable → Variable) : Type 0 where
  pub registers : (r : ℕ) → (f (register r) ≡ register r) ⊎ ((v : List Atom) × (f (register r) ≡ known v))
  pub names : (n : ℕ) → f (name n) ≡ name n
  pub values : (v : List Atom) → f (known v) ≡ known v

-- g is f with a value for register r, where f has none
abbrev pub IsWith : ℕ → List Atom → (Variable → Variable) → (Variable → Variable) → Type 0
IsWith r v f g = (x : Variable) → register_to r v (f x) ≡ g x

same_functions : (f g : Variable → Variable) → ((x : Variable) → f x ≡ g x) → f ≡ g
same_functions f g h = λ i x. h x i

-- ---- where a register is written again

pub without_at : (s q : ℕ) (f : Variable → Variable) (b : Bool) → eqb q s ≡ b → without_register s f (register q) ≡ cond b (register q) (f (register q))
without_at s q f b e = rw (← e) refl

pub IsPartial-without : (s : ℕ) (f : Variable → Variable) → IsPartial f → IsPartial (without_register s f)
IsPartial-without s f p = record { registers = λ q. at q (eqb q s) refl; names = p.names; values = p.values }
  where
    at : (q : ℕ) (b : Bool) → eqb q s ≡ b → (without_register s f (register q) ≡ register q) ⊎ ((v : List Atom) × (without_register s f (register q) ≡ known v))
    at q true e = inl (without_at s q f true e)
    at q false e = subst (λ x. (x ≡ register q) ⊎ ((v : List Atom) × (x ≡ known v))) (sym (without_at s q f false e)) (p.registers q)

-- another register's value doesn't change
pub other_stays : (r : ℕ) (v : List Atom) (q : ℕ) (x : Variable) → eqb q r ≡ false → (x ≡ register q) ⊎ ((w : List Atom) × (x ≡ known w)) → register_to r v x ≡ x
other_stays r v q x ne (inl is) = subst (λ y. register_to r v y ≡ y) (sym is) (rw ne refl)
other_stays r v q x ne (inr k) = subst (λ y. register_to r v y ≡ y) (sym k.1) refl

-- the register that is written again is the one with the new value
same_without : (r : ℕ) (v : List Atom) (f g : Variable → Variable) → IsPartial f → IsWith r v f g → (x : Variable) → without_register r f x ≡ without_register r g x
same_without r v f g p w (name n) = p.names n ∙ sym (sym (w (name n)) ∙ ap (register_to r v) (p.names n))
same_without r v f g p w (known u) = p.values u ∙ sym (sym (w (known u)) ∙ ap (register_to r v) (p.values u))
same_without r v f g p w (register q) = at (eqb q r) refl
  where
    at : (b : Bool) → eqb q r ≡ b → without_register r f (register q) ≡ without_register r g (register q)
    at true e = without_at r q f true e ∙ sym (without_at r q g true e)
    at false e = without_at r q f false e ∙ sym (other_stays r v q (f (register q)) e (p.registers q)) ∙ w (register q) ∙ sym (without_at r q g false e)

-- another register is written again
with_without : (r s : ℕ) (v : List Atom) (f g : Variable → Variable) → eqb s r ≡ false → IsWith r v f g → IsWith r v (without_register s f) (without_register s g)
with_without r s v f g ne w (name n) = w (name n)
with_without r s v f g ne w (known u) = w (known u)
with_without r s v f g ne w (register q) = at (eqb q s) refl
  where
    at : (b : Bool) → eqb q s ≡ b → register_to r v (without_register s f (register q)) ≡ without_register s g (register q)
    at true e =
        ap (register_to r v) (without_at s q f true e) ∙ subst (λ k. register_to r v (register k) ≡ register k) (sym (eqb-true q s e)) (rw ne refl)
        ∙ sym (without_at s q g true e)
    at false e = ap (register_to r v) (without_at s q f false e) ∙ w (register q) ∙ sym (without_at s q g false e)

pub rebound : (r : ℕ) (v : List Atom) (ss : List Step) (f g : Variable → Variable) → IsPartial f → IsWith r v f g → written r v (under f ss) ≡ under g ss
rebound r v [] f g p w = refl
rebound r v (emitting at e ∷ ss) f g p w =
    let here = expression_twice (register_to r v) f e ∙ ap (λ (h : Variable → Variable). in_expression h e) (same_functions _ g w) in
    let rest = rebound r v ss f g p w in
    λ i. emitting at (here i) ∷ rest i
rebound r v (syncing at s t ∷ ss) f g p w =
    let here = replaced_twice (register_to r v) f t ∙ ap (λ (h : Variable → Variable). replaced h t) (same_functions _ g w) in
    let rest = behind (eqb s r) refl (λ ne. rebound r v ss (without_register s f) (without_register s g) (IsPartial-without s f p) (with_without r s v f g ne w)) in
    λ i. syncing at s (here i) ∷ rest i
  where
    behind : (b : Bool) → eqb s r ≡ b → (eqb s r ≡ false → written r v (under (without_register s f) ss) ≡ under (without_register s g) ss)
        → cond (eqb s r) (under (without_register s f) ss) (written r v (under (without_register s f) ss)) ≡ under (without_register s g) ss
    behind true e go = rw e (subst (λ k. under (without_register k f) ss ≡ under (without_register k g) ss) (sym (eqb-true s r e)) (ap (λ (h : Variable → Variable).
        under h ss) (same_functions _ _ (same_without r v f g p w))))
    behind false e go = rw e (go e)
