-- The fault that is found by going from token to token is the one that stands there, and where one stands it is found.
use Rattle.std.proofs.Common.{◌≡◌, ℕ, true, false, List, [], ◌∷◌, ◌++◌, refl, sym, ◌∙◌, ap, subst, inl, inr, append_assoc}
use Rattle.std.specs.Prelude.{Option, Some, None, ◌⊎◌}
use Rattle.std.proofs.lemmas.List.{append-nil}
use Rattle.te_reader.specs.declared.cause.Cause.{Cause}
use Rattle.te_reader.specs.declared.token.Word.TheVariants as words
use Rattle.te_reader.specs.declared.token.Sign.TheVariants as signs
use Rattle.te_reader.specs.declared.part.Role.{Role}
use Rattle.te_reader.specs.declared.part.Role.TheVariants as roles
use Rattle.te_reader.specs.declared.part.Part.{Part}
use Rattle.te_reader.specs.declared.part.Part.TheVariants as parts
use Rattle.te_reader.specs.Spots.{Spot}
use Rattle.te_reader.specs.Forms.{sync_behind, Form, form, forms, IsAmong, MakeUp, BeginScript, FitsRole}
use Rattle.te_reader.specs.Rules.{Context, nothing_before, rules, first_broken, context_after}
use Rattle.te_reader.specs.Faults.{Keep, misfit, IsFault}
use Rattle.te_reader.specs.Runs.{Found, found, pick, next_found, broken_or, run}
use Rattle.te_reader.proofs.PickedForms.{picked_fits, fitting_is_picked}

-- ---- what is wanted can be spelled

-- one part before more
spelled_before : (p : Part) (rs : List Role) (more : List Part) → MakeUp rs more → (more_roles : List Role) × MakeUp more_roles (p ∷ more)
spelled_before parts.Script rs more h = (roles.End ∷ rs, ([], inr (inr (inl refl)), h))
spelled_before parts.Channels rs more h = (roles.Sign signs.Semicolon ∷ rs, ([], inr (inl refl), h))
spelled_before parts.Threads rs more h = (roles.End ∷ rs, ([], inr (inl refl), h))
spelled_before parts.Statements rs more h = (roles.Sign signs.CloseBrace ∷ rs, ([], inr (inr (inr (inl refl))), h))
spelled_before parts.Sync rs more h = (
  roles.Register ∷ roles.Sign signs.Arrow ∷ roles.SyncWord ∷ roles.Leaf words.Never ∷ roles.SyncEnd ∷ rs,
  (sync_behind [], inl refl, ([], inl refl, ([], inl refl, ([], inr (inl refl), ([], inl refl, h))))),
)
spelled_before parts.Syncs rs more h = (roles.Sign signs.CloseBrace ∷ rs, ([], inr (inl refl), h))
spelled_before parts.Event rs more h = (roles.Leaf words.Never ∷ rs, ([], inr (inl refl), h))
spelled_before parts.Parts rs more h = (roles.Leaf words.Never ∷ roles.Close ∷ rs, (parts.Only roles.Close ∷ [], inr (inr (inl refl)), ([], inl refl, h)))
spelled_before parts.Bars rs more h = (roles.Close ∷ rs, ([], inr (inl refl), h))
spelled_before parts.Expression rs more h = (roles.Whole ∷ rs, ([], inl refl, h))
spelled_before parts.Inside rs more h = (roles.TupleEnd ∷ rs, ([], inl refl, h))
spelled_before parts.Calculation rs more h = (roles.Integer true ∷ roles.TupleEnd ∷ rs, (parts.Behind ∷ [], inl refl, ([], inr (inr (inr (inr (inl refl)))), h)))
spelled_before parts.Behind rs more h = (roles.TupleEnd ∷ rs, ([], inr (inr (inr (inr (inl refl)))), h))
spelled_before parts.Further rs more h = (roles.TupleEnd ∷ rs, ([], inr (inl refl), h))
spelled_before parts.Operand rs more h = (roles.Integer false ∷ rs, ([], inl refl, h))
spelled_before parts.Test rs more h = (roles.Sign signs.Equal ∷ rs, ([], inl refl, h))
spelled_before (parts.Only r) rs more h = (r ∷ rs, ([], inl refl, h))

some_roles : (wanted : List Part) → (rs : List Role) × MakeUp rs wanted
some_roles [] = ([], tt)
some_roles (p ∷ more) = let h = some_roles more in spelled_before p h.0 more h.1

-- ---- where the parts that are wanted come from

-- these roles leave these parts wanted
record Leaves (rs : List Role) (wanted : List Part) : Type 0 where
  goes_on : (more : List Role) → MakeUp more wanted → MakeUp (rs ++ more) (parts.Script ∷ [])
  comes_from : (more : List Role) → MakeUp (rs ++ more) (parts.Script ∷ []) → MakeUp more wanted

none_yet : Leaves [] (parts.Script ∷ [])
none_yet = record { goes_on = λ more h. h; comes_from = λ more h. h }

begins : (rs : List Role) (wanted : List Part) → Leaves rs wanted → BeginScript rs
begins rs wanted l = let h = some_roles wanted in (h.0, l.goes_on h.0 h.1)

-- the parts behind a role are those of the form that is picked
same_wanted : (p : Part) (s : Spot) (r : Role) (w v : List Part) → pick p s.head s.dotted ≡ Some (form r w) → IsAmong (form r v) (forms p) → FitsRole r s → v ≡ w
same_wanted p s r w v e h f = sym (ap (wanted_of w) (sym e ∙ fitting_is_picked p s (form r v) h f)) where
  wanted_of : List Part → Option Form → List Part
  wanted_of d None = d
  wanted_of d (Some g) = g.wanted

one_more : (rs : List Role) (p : Part) (more : List Part) (s : Spot) (f : Form) → Leaves rs (p ∷ more) → pick p s.head s.dotted ≡ Some f → Leaves (rs ++ f.role ∷ []) (f.wanted ++ more)
one_more rs p more s f l e =
    let g = picked_fits p s f e in
    record {
      goes_on = λ xs h. subst (λ (x : List Role). MakeUp x (parts.Script ∷ [])) (sym (append_assoc rs (f.role ∷ []) xs)) (l.goes_on (f.role ∷ xs) (f.wanted, g.0, h));
      comes_from = λ xs h.
          let k = l.comes_from (f.role ∷ xs) (subst (λ (x : List Role). MakeUp x (parts.Script ∷ [])) (append_assoc rs (f.role ∷ []) xs) h) in
          subst (λ (w : List Part). MakeUp xs (w ++ more)) (same_wanted p s f.role f.wanted k.0 e k.1 g.1) k.2;
    }

-- ---- what was found stands there

keep_more : (c : Context) (rs : List Role) (ss : List Spot) (d : Context) (r : Role) (s : Spot) → Keep c rs ss d
    → FitsRole r s → first_broken (rules r d s.head) ≡ None → Keep c (rs ++ r ∷ []) (ss ++ s ∷ [])
    (context_after r d s.head)
keep_more c [] [] d r s k f e = let same : c ≡ d = k in (f, rw same e, ap (λ x. context_after r x s.head) same)
keep_more c [] (t ∷ ss) d r s k f e = absurd k
keep_more c (x ∷ rs) [] d r s k f e = absurd k
keep_more c (x ∷ rs) (t ∷ ss) d r s k f e = (k.0, k.1, keep_more (context_after x c t.head) rs ss d r s k.2 f e)

-- where we stand: the spots before, their roles, and what they leave
record Stand (all : List Spot) (before : List Spot) (rs : List Role) (wanted : List Part) (c : Context) (ss : List Spot) : Type 0 where
  is_split : all ≡ before ++ ss
  leaves : Leaves rs wanted
  keep : Keep nothing_before rs before c

-- what breaks a rule or has no role at the next spot
abbrev Breaks : List Role → Context → Spot → Cause → Type 0
Breaks rs c s k =
    ((k ≡ misfit s.head) × ((r : Role) → BeginScript (rs ++ r ∷ []) → FitsRole r s → ⊥))
    ⊎ ((r : Role) × BeginScript (rs ++ r ∷ []) × FitsRole r s × (first_broken (rules r c s.head) ≡ Some k))

fault_of_stand : (all before : List Spot) (rs : List Role) (wanted : List Part) (c : Context) (s : Spot)
    (ss : List Spot) (k : Cause) → Stand all before rs wanted c (s ∷ ss) → Breaks rs c s k → IsFault all k s.left
fault_of_stand all before rs wanted c s ss k st b = record {
  before = before;
  at = s;
  behind = ss;
  is_split = st.is_split;
  place = refl;
  roles = rs;
  begin = begins rs wanted st.leaves;
  context = c;
  keep = st.keep;
  broken = b;
}

-- no role fits where nothing is picked
no_role : (rs : List Role) (p : Part) (more : List Part) (s : Spot) → Leaves rs (p ∷ more) → pick p s.head s.dotted ≡ None → (r : Role) → BeginScript (rs ++ r ∷ []) → FitsRole r s → ⊥
no_role rs p more s l e r b f =
    let h = l.comes_from (r ∷ b.0) (subst (λ (x : List Role). MakeUp x (parts.Script ∷ [])) (append_assoc rs (r ∷ []) b.0) b.1) in
    let both : Some (form r h.0) ≡ None = sym (fitting_is_picked p s (form r h.0) h.1 f) ∙ e in
    absurd cc

none_wanted : (rs : List Role) (s : Spot) → Leaves rs [] → (r : Role) → BeginScript (rs ++ r ∷ []) → FitsRole r s → ⊥
none_wanted rs s l r b f = l.comes_from (r ∷ b.0) (subst (λ (x : List Role). MakeUp x (parts.Script ∷ [])) (append_assoc rs (r ∷ []) b.0) b.1)

found_stands : (all before : List Spot) (rs : List Role) (wanted : List Part) (c : Context) (ss : List Spot) (k : Cause)
    (at : ℕ) → Stand all before rs wanted c ss → run wanted c ss ≡ Some (found k at) → IsFault all k at
unfolding run
found_stands all before rs [] c [] k at st e = absurd cc
found_stands all before rs (p ∷ more) c [] k at st e = absurd cc
found_stands all before rs [] c (s ∷ ss) k at st e =
    let same : found (misfit s.head) s.left ≡ found k at = cc in
    subst (λ (x : Found). IsFault all x.cause x.left) same (fault_of_stand all before rs [] c s ss (misfit s.head) st (inl (refl, none_wanted rs s st.leaves)))
found_stands all before rs (p ∷ more) c (s ∷ ss) k at st e = by (λ b r w d h g. found_stands all b r w d ss k at h g) (pick p s.head s.dotted) refl e where
  broken : ((b : List Spot) (rs : List Role) (w : List Part) (d : Context) → Stand all b rs w d ss → run w d ss ≡ Some (found k at) → IsFault all k at)
      → (f : Form) → pick p s.head s.dotted ≡ Some f → (o : Option Cause) → first_broken (rules f.role c s.head) ≡ o
      → broken_or (run (f.wanted ++ more) (context_after f.role c s.head) ss) s.left o ≡ Some (found k at)
      → IsFault all k at
  broken later f picked None kept e =
      let g = picked_fits p s f picked in
      let next : Stand all (before ++ s ∷ []) (rs ++ f.role ∷ []) (f.wanted ++ more) (context_after f.role c s.head) ss = record {
        is_split = st.is_split ∙ sym (append_assoc before (s ∷ []) ss);
        leaves = one_more rs p more s f st.leaves picked;
        keep = keep_more nothing_before rs before c f.role s st.keep g.1 kept;
      } in
      later (before ++ s ∷ []) (rs ++ f.role ∷ []) (f.wanted ++ more) (context_after f.role c s.head) next e
  broken later f picked (Some j) kept e =
      let same : found j s.left ≡ found k at = cc in
      let g = picked_fits p s f picked in
      let b : Breaks rs c s j = inr (f.role, begins (rs ++ f.role ∷ []) (f.wanted ++ more) (one_more rs p more s f st.leaves picked), g.1, kept) in
      subst (λ (x : Found). IsFault all x.cause x.left) same (fault_of_stand all before rs (p ∷ more) c s ss j st b)

  by : ((b : List Spot) (rs : List Role) (w : List Part) (d : Context) → Stand all b rs w d ss → run w d ss ≡ Some (found k at) → IsFault all k at)
      → (o : Option Form) → pick p s.head s.dotted ≡ o → next_found (λ wanted next. run wanted next ss) more c s o ≡ Some (found k at) → IsFault all k at
  by later None picked e =
      let same : found (misfit s.head) s.left ≡ found k at = cc in
      subst (λ (x : Found). IsFault all x.cause x.left) same (fault_of_stand all before rs (p ∷ more) c s ss (misfit s.head) st (inl (refl, no_role rs p more s st.leaves picked)))
  by later (Some f) picked e = broken later f picked (first_broken (rules f.role c s.head)) refl e

pub found_is_fault : (ss : List Spot) (k : Cause) (at : ℕ) → run (parts.Script ∷ []) nothing_before ss ≡ Some (found k at) → IsFault ss k at
found_is_fault ss k at e = found_stands ss [] [] (parts.Script ∷ []) nothing_before ss k at (record { is_split = refl; leaves = none_yet; keep = refl }) e

-- ---- what stands there is found

-- one token on
pub step : (p : Part) (more : List Part) (c : Context) (s : Spot) (ss : List Spot) (f : Form) → pick p s.head s.dotted ≡ Some f → first_broken (rules f.role c s.head) ≡ None
    → run (p ∷ more) c (s ∷ ss) ≡ run (f.wanted ++ more) (context_after f.role c s.head) ss
unfolding run
step p more c s ss f e h = rw (e, h) refl

-- the fault at the next spot
here : (rs : List Role) (wanted : List Part) (c : Context) (s : Spot) (ss : List Spot) (k : Cause) → Leaves rs wanted → Breaks rs c s k → run wanted c (s ∷ ss) ≡ Some (found k s.left)
unfolding run
here rs [] c s ss k l (inl b) = ap (λ x. Some (found x s.left)) (sym b.0)
here rs [] c s ss k l (inr b) = absurd (none_wanted rs s l b.0 b.1 b.2)
here rs (p ∷ more) c s ss k l (inl b) = by (pick p s.head s.dotted) refl where
  by : (o : Option Form) → pick p s.head s.dotted ≡ o → next_found (λ wanted next. run wanted next ss) more c s o ≡ Some (found k s.left)
  by None e = ap (λ x. Some (found x s.left)) (sym b.0)
  by (Some f) e = absurd (b.1 f.role (begins (rs ++ f.role ∷ []) (f.wanted ++ more) (one_more rs p more s f l e)) (picked_fits p s f e).1)
here rs (p ∷ more) c s ss k l (inr b) =
    let h = l.comes_from (b.0 ∷ b.1.0) (subst (λ (x : List Role). MakeUp x (parts.Script ∷ [])) (append_assoc rs (b.0 ∷ []) b.1.0) b.1.1) in
    rw (fitting_is_picked p s (form b.0 h.0) h.1 b.2, b.3) refl

there : (rs : List Role) (wanted : List Part) (c : Context) (more : List Role) (before : List Spot) (s : Spot)
    (ss : List Spot) (d : Context) (k : Cause) → Leaves rs wanted → BeginScript (rs ++ more) → Keep c more before d
    → Breaks (rs ++ more) d s k
    → run wanted c (before ++ s ∷ ss) ≡ Some (found k s.left)
there rs wanted c [] [] s ss d k l begun kept b =
    let same : c ≡ d = kept in
    here rs wanted c s ss k l (subst (λ (x : List Role). Breaks x c s k) (append-nil rs) (subst (λ (x : Context). Breaks (rs ++ []) x s k) (sym same) b))
there rs wanted c [] (t ∷ before) s ss d k l begun kept b = absurd kept
there rs wanted c (r ∷ more) [] s ss d k l begun kept b = absurd kept
there rs [] c (r ∷ more) (t ∷ before) s ss d k l begun kept b =
    absurd (l.comes_from (r ∷ (more ++ begun.0)) (subst (λ (x : List Role). MakeUp x (parts.Script ∷ []))
    (append_assoc rs (r ∷ more) begun.0) begun.1))
there rs (p ∷ wanted) c (r ∷ more) (t ∷ before) s ss d k l begun kept b =
    let h = l.comes_from (r ∷ (more ++ begun.0)) (subst (λ (x : List Role). MakeUp x (parts.Script ∷ [])) (append_assoc rs (r ∷ more) begun.0) begun.1) in
    let picked = fitting_is_picked p t (form r h.0) h.1 kept.0 in
    let assoc = sym (append_assoc rs (r ∷ []) more) in
    step p wanted c t (before ++ s ∷ ss) (form r h.0) picked kept.1
    ∙ there (rs ++ r ∷ []) (h.0 ++ wanted) (context_after r c t.head) more before s ss d k (one_more rs p wanted t (form r h.0) l picked)
    (subst (λ (x : List Role). BeginScript x) assoc begun) kept.2 (subst (λ (x : List Role). Breaks x d s k) assoc b)

pub fault_is_found : (ss : List Spot) (k : Cause) (at : ℕ) → IsFault ss k at → run (parts.Script ∷ []) nothing_before ss ≡ Some (found k at)
fault_is_found ss k at f =
    ap (run (parts.Script ∷ []) nothing_before) f.is_split
    ∙ there [] (parts.Script ∷ []) nothing_before f.roles f.before f.at f.behind f.context k none_yet f.begin f.keep f.broken
    ∙ ap (λ n. Some (found k n)) f.place
