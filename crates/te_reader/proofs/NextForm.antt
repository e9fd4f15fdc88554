-- The form that is picked where the last event of a `do` is told apart, and the step to the next token.
use Rattle.std.proofs.Common.{◌≡◌, ℕ, ◌<◌, Bool, true, false, not, List, [], ◌∷◌, ◌++◌, length, refl, sym, ◌∙◌, ap, subst, append_assoc, arith}
use Rattle.std.specs.Prelude.{Option, Some, None}
use Rattle.std.specs.Option.{option_map}
use Rattle.te_reader.specs.declared.form.Form as declared
use Rattle.te_reader.specs.declared.part.Role.TheVariants as roles
use Rattle.te_reader.specs.declared.part.Part.{Part}
use Rattle.te_reader.specs.declared.part.Part.TheVariants as parts
use Rattle.te_reader.specs.declared.cause.Cause.{Cause}
use Rattle.te_reader.specs.Tokens as tokens
use Rattle.te_reader.specs.Spots.{Spot, Head, token, over, strange}
use Rattle.te_reader.specs.Forms.{then_also}
use Rattle.te_reader.specs.Rules.{Context, rules, first_broken, context_after}
use Rattle.te_reader.specs.Faults.{misfit}
use Rattle.te_reader.specs.Runs.{found, pick, pick_plain, event_form, parts_form, part_form, is_bound, run}
use Rattle.te_reader.specs.Finding.{form_seen, is_last, is_end, IsPickedAs, LooksAt, EndsSpots, GoesBehind, first_head}
use Rattle.te_terms.proofs.Lists.{not_true, not_false}

bound_parts : (h : Head) → is_bound h ≡ true → parts_form h ≡ part_form h
bound_parts (token (tokens.name n)) e = refl
bound_parts (token (tokens.inner n)) e = refl
bound_parts (token (tokens.word w)) e = absurd cc
bound_parts (token (tokens.integer n)) e = absurd cc
bound_parts (token (tokens.sign g)) e = absurd cc
bound_parts over e = absurd cc
bound_parts (strange b) e = absurd cc

last_parts : (h : Head) → is_bound h ≡ false → parts_form h ≡ option_map (then_also (parts.Only roles.Close)) (event_form h)
last_parts (token (tokens.name n)) e = absurd cc
last_parts (token (tokens.inner n)) e = absurd cc
last_parts (token (tokens.word w)) e = refl
last_parts (token (tokens.integer n)) e = refl
last_parts (token (tokens.sign g)) e = refl
last_parts over e = refl
last_parts (strange b) e = refl

-- the last event and its brace
last_picked : (p : Part) (h : Head) (d : Bool) → is_last p h ≡ true → pick p h d ≡ option_map (then_also (parts.Only roles.Close)) (pick_plain parts.Event h d)
unfolding pick pick_plain
last_picked parts.Parts h d e = last_parts h (not_true (is_bound h) e)
last_picked parts.Script h d e = absurd cc
last_picked parts.Channels h d e = absurd cc
last_picked parts.Threads h d e = absurd cc
last_picked parts.Statements h d e = absurd cc
last_picked parts.Sync h d e = absurd cc
last_picked parts.Syncs h d e = absurd cc
last_picked parts.Event h d e = absurd cc
last_picked parts.Bars h d e = absurd cc
last_picked parts.Expression h d e = absurd cc
last_picked parts.Inside h d e = absurd cc
last_picked parts.Calculation h d e = absurd cc
last_picked parts.Behind h d e = absurd cc
last_picked parts.Further h d e = absurd cc
last_picked parts.Operand h d e = absurd cc
last_picked parts.Test h d e = absurd cc
last_picked (parts.Only r) h d e = absurd cc

plain_picked : (p : Part) (h : Head) (d : Bool) → is_last p h ≡ false → pick p h d ≡ pick_plain p h d
unfolding pick pick_plain
plain_picked parts.Parts h d e = bound_parts h (not_false (is_bound h) e)
plain_picked parts.Script h d e = refl
plain_picked parts.Channels h d e = refl
plain_picked parts.Threads h d e = refl
plain_picked parts.Statements h d e = refl
plain_picked parts.Sync h d e = refl
plain_picked parts.Syncs h d e = refl
plain_picked parts.Event h d e = refl
plain_picked parts.Bars h d e = refl
plain_picked parts.Expression h d e = refl
plain_picked parts.Inside h d e = refl
plain_picked parts.Calculation h d e = refl
plain_picked parts.Behind h d e = refl
plain_picked parts.Further h d e = refl
plain_picked parts.Operand h d e = refl
plain_picked parts.Test h d e = refl
plain_picked (parts.Only r) h d e = refl

pub last_form : (p : Part) (h : Head) (d : Bool) (o : Option declared.Form) (old new : List Part) → is_last p h ≡ true
    → option_map form_seen o ≡ pick_plain parts.Event h d → new ≡ parts.Only roles.Close ∷ old
    → IsPickedAs o old new (pick p h d)
last_form p h d o old new e picked more = rw (last_picked p h d e, ← picked) (by o) where
  by : (o : Option declared.Form) → IsPickedAs o old new (option_map (then_also (parts.Only roles.Close)) (option_map form_seen o))
  by None = refl
  by (Some f) = (f.wanted.now ++ parts.Only roles.Close ∷ [], refl, append_assoc f.wanted.now (parts.Only roles.Close ∷ []) old ∙ ap (λ x. f.wanted.now ++ x) (sym more))

pub plain_form : (p : Part) (h : Head) (d : Bool) (o : Option declared.Form) (old : List Part) → is_last p h ≡ false → option_map form_seen o ≡ pick_plain p h d → IsPickedAs o old old (pick p h d)
plain_form p h d o old e picked = rw (plain_picked p h d e, ← picked) (by o) where
  by : (o : Option declared.Form) → IsPickedAs o old old (option_map form_seen o)
  by None = refl
  by (Some f) = (f.wanted.now, refl, refl)

-- ---- steps

-- where nothing is wanted, and where no form is picked
pub nothing_wanted : (c : Context) (h : Head) (d : Bool) (left : ℕ) (wanted : List Part) (ss : List Spot) → wanted ≡ [] → LooksAt h d left ss → run wanted c ss ≡ Some (found (misfit h) left)
unfolding run
nothing_wanted c h d left wanted ss e look = rw (e, look.1) refl

pub no_form : (c : Context) (h : Head) (d : Bool) (left : ℕ) (p : Part) (old more wanted : List Part) (ss : List Spot)
    → wanted ≡ p ∷ old → LooksAt h d left ss → IsPickedAs None old more (pick p h d)
    → run wanted c ss ≡ Some (found (misfit h) left)
unfolding run
no_form c h d left p old more wanted ss e look picked = rw (e, look.1, picked) refl

pub broken_rule : (c : Context) (h : Head) (d : Bool) (left : ℕ) (p : Part) (f : declared.Form)
    (old more wanted : List Part) (ss : List Spot) (k : Cause) → wanted ≡ p ∷ old → LooksAt h d left ss
    → IsPickedAs (Some f) old more (pick p h d)
    → first_broken (rules f.role c h) ≡ Some k → run wanted c ss ≡ Some (found k left)
unfolding run
broken_rule c h d left p f old more wanted ss k e look picked broken = rw (e, look.1, picked.1, broken) refl

no_more : (w : List Part) (x : Context) → run w x [] ≡ None
unfolding run
no_more [] x = refl
no_more (q ∷ qs) x = refl

-- one token on
goes_to : (c : Context) (h : Head) (d : Bool) (left : ℕ) (p : Part) (f : declared.Form) (old more wanted : List Part)
    (ss : List Spot) → wanted ≡ p ∷ old → (look : LooksAt h d left ss) → IsPickedAs (Some f) old more (pick p h d)
    → first_broken (rules f.role c h) ≡ None → run wanted c ss ≡ run (f.wanted.now ++ more) (context_after f.role c h) look.0
unfolding run
goes_to c h d left p f old more wanted ss e look picked kept = rw (e, look.1, picked.1, kept, picked.2) refl

pub ended_there : (c : Context) (h : Head) (d : Bool) (left : ℕ) (p : Part) (f : declared.Form)
    (old more wanted : List Part) (ss : List Spot) → wanted ≡ p ∷ old → LooksAt h d left ss
    → IsPickedAs (Some f) old more (pick p h d)
    → first_broken (rules f.role c h) ≡ None → is_end h ≡ true → run wanted c ss ≡ None
ended_there c h d left p f old more wanted ss e look picked kept last =
    goes_to c h d left p f old more wanted ss e look picked kept
    ∙ ap (run (f.wanted.now ++ more) (context_after f.role c h)) (none h last look.2) ∙ no_more (f.wanted.now ++ more)
    (context_after f.role c h) where
      none : (h : Head) → is_end h ≡ true → EndsSpots h look.0 → look.0 ≡ []
      none (token t) e k = absurd cc
      none over e k = k
      none (strange b) e k = k

-- what is wanted, what stands before, and what stands behind are those of the step
pub went_on : (c : Context) (h : Head) (d : Bool) (left : ℕ) (p : Part) (f : declared.Form)
    (old more wanted new : List Part) (ss next : List Spot) (next_c : Context) → wanted ≡ p ∷ old → LooksAt h d left ss
    → IsPickedAs (Some f) old more (pick p h d)
    → first_broken (rules f.role c h) ≡ None → is_end h ≡ false → next_c ≡ context_after f.role c h
    → new ≡ f.wanted.now ++ more → GoesBehind (first_head ss) ss next → run wanted c ss ≡ run new next_c next
went_on c h d left p f old more wanted new ss next next_c e look picked kept open_yet is_c is_w behind =
    goes_to c h d left p f old more wanted ss e look picked kept
    ∙ ap (λ x. run x (context_after f.role c h) look.0) (sym is_w) ∙ ap (λ x. run new x look.0) (sym is_c)
    ∙ ap (run new next_c) (rest_is h open_yet (subst (λ (x : Head). GoesBehind x ss next) (ap first_head look.1) behind)) where
      rest_is : (h : Head) → is_end h ≡ false → GoesBehind h ss next → look.0 ≡ next
      rest_is (token t) e g = same (sym look.1 ∙ g.1) where
        tail : List Spot → List Spot
        tail [] = []
        tail (x ∷ xs) = xs

        same : record { head = h; dotted = d; left = left } ∷ look.0 ≡ g.0 ∷ next → look.0 ≡ next
        same k = ap tail k
      rest_is over e g = absurd cc
      rest_is (strange b) e g = absurd cc

-- there is one spot fewer
pub fewer : (h : Head) (d : Bool) (left : ℕ) (ss next : List Spot) → LooksAt h d left ss → is_end h ≡ false → GoesBehind (first_head ss) ss next → length next < length ss
fewer h d left ss next look open_yet behind = by h open_yet (subst (λ (x : Head). GoesBehind x ss next) (ap first_head look.1) behind) where
  by : (h : Head) → is_end h ≡ false → GoesBehind h ss next → length next < length ss
  by (token t) e g = omega (arith, ap length g.1)
  by over e g = absurd cc
  by (strange b) e g = absurd cc
