-- What is spelled by some tokens is gone through without a fault: events.
use Rattle.std.proofs.Common.{◌≡◌, ℕ, zero, suc, ◌+◌, ◌-◌, ◌≤◌, Bool, true, false, nat_lt, nat_le, max, List, [], ◌∷◌, ◌++◌, length, take, refl, ◌∙◌, ap, inl, inr, arith, append_assoc, length-append}
use Rattle.std.specs.Prelude.{Option, Some, None, ◌⊎◌}
use Rattle.std.specs.Option.{option_map}
use Rattle.std.proofs.lemmas.Bool.Decides.{nat_tests}
use Rattle.te_terms.specs.declared.expr.Test.{Test}
use Rattle.te_terms.specs.declared.expr.Test.TheVariants as tests
use Rattle.te_terms.specs.Expressions.{Primitive, Expression}
use Rattle.te_terms.specs.Terms.{Term, always, never, fresh, throw, send, recv, and_then, choose, catch, when}
use Rattle.te_terms.specs.Measures.{height, fresh_count}
use Rattle.te_reader.specs.declared.brace.Brace.{Brace}
use Rattle.te_reader.specs.declared.token.Word.{Word}
use Rattle.te_reader.specs.declared.token.Word.TheVariants as words
use Rattle.te_reader.specs.declared.token.Sign.TheVariants as signs
use Rattle.te_reader.specs.declared.part.Role.TheVariants as roles
use Rattle.te_reader.specs.declared.part.Part.{Part}
use Rattle.te_reader.specs.declared.part.Part.TheVariants as parts
use Rattle.te_reader.specs.Tokens as tokens
use Rattle.te_reader.specs.Tokens.{Token, word, sign}
use Rattle.te_reader.specs.Grammar.{Names, with_inner, is, ◌⨟◌, IsFreeName, bound_name, binds, alone, in_do, in_choose, in_braces, do_parts, test_sign, spells_event}
use Rattle.te_reader.specs.Spots.{token}
use Rattle.te_reader.specs.Forms.{Form, form, then_also, bound_event}
use Rattle.te_reader.specs.Rules.{Context, rules, first_broken, context_after, reaching, behind_bar, behind_name, depth_within}
use Rattle.te_reader.specs.Runs.{pick, pick_plain, event_form, next_found, run}
use Rattle.te_reader.specs.Tallies.{Tally, one_node, one_channel, tally_with_event}
use Rattle.te_reader.proofs.TallyLemmas.{tally_same}
use Rattle.te_reader.proofs.Passing.{spots_of, dotted, Goes, goes, goes_alone, names_in, at, at_same, reaching_same, not_among}
use Rattle.te_reader.proofs.SpelledPasses.{IsFew, expression_goes, expression_plain, primitive_goes, operand_is}
use Rattle.te_reader.proofs.EventIsRead.{some_height}
use Rattle.te_terms.proofs.Lists.{deeper, whole_taken}

-- ---- what is reached

-- a brace behind an event in it
abbrev pub reached : Brace → Term → Brace
reached b t = reaching (b.level + height t - 1) b

-- behind a brace, its names are out of scope
abbrev pub cut : Brace → Context → Context
cut b c = record c { inners = take b.outer c.inners }

-- ---- single tokens

shallow : (k h : ℕ) → k + h ≤ 33 → 1 ≤ h → nat_lt 32 k ≡ false
shallow k h low some = grind (arith, nat_tests, low, some)

-- the brace that closes events
close_alone : (c : Context) (b b0 : Brace) (bs : List Brace) (n : Tally) (wanted : List Part) (ts rest : List Token) → ts ≡ sign signs.CloseBrace ∷ rest
    → Goes (parts.Only roles.Close ∷ wanted) (at c b (b0 ∷ bs) n) ts wanted (at (cut b c) (reaching (depth_within b) b0) bs n) rest
close_alone c b b0 bs n wanted ts rest e = goes_alone roles.Close wanted (at c b (b0 ∷ bs) n) (sign signs.CloseBrace) ts rest e refl refl

close_bars : (c : Context) (b b0 : Brace) (bs : List Brace) (n : Tally) (wanted : List Part) (ts rest : List Token) → ts ≡ sign signs.CloseBrace ∷ rest
    → Goes (parts.Bars ∷ wanted) (at c b (b0 ∷ bs) n) ts wanted (at (cut b c) (reaching (depth_within b) b0) bs n) rest
unfolding pick pick_plain
close_bars c b b0 bs n wanted ts rest e = goes parts.Bars (form roles.Close []) wanted (at c b (b0 ∷ bs) n) (sign signs.CloseBrace) ts rest e refl refl

bar_alone : (c : Context) (b : Brace) (bs : List Brace) (n : Tally) (wanted : List Part) (ts rest : List Token) → ts ≡ sign signs.Bar ∷ rest
    → Goes (parts.Only roles.Bar ∷ wanted) (at c b bs n) ts wanted (at c (behind_bar b) bs (one_node n)) rest
bar_alone c b bs n wanted ts rest e = goes_alone roles.Bar wanted (at c b bs n) (sign signs.Bar) ts rest e refl refl

bar_bars : (c : Context) (b : Brace) (bs : List Brace) (n : Tally) (wanted : List Part) (ts rest : List Token) → ts ≡ sign signs.Bar ∷ rest
    → Goes (parts.Bars ∷ wanted) (at c b bs n) ts (parts.Event ∷ parts.Bars ∷ wanted) (at c (behind_bar b) bs (one_node n)) rest
unfolding pick pick_plain
bar_bars c b bs n wanted ts rest e = goes parts.Bars (form roles.Bar (parts.Event ∷ parts.Bars ∷ [])) wanted (at c b bs n) (sign signs.Bar) ts rest e refl refl

test_goes : (o : Test) (c : Context) (wanted : List Part) (ts rest : List Token) → ts ≡ sign (test_sign o) ∷ rest → Goes (parts.Test ∷ wanted) c ts wanted c rest
unfolding pick pick_plain
test_goes tests.Equal c wanted ts rest e = goes parts.Test (form (roles.Sign signs.Equal) []) wanted c (sign signs.Equal) ts rest e refl refl
test_goes tests.Less c wanted ts rest e = goes parts.Test (form (roles.Sign signs.Less) []) wanted c (sign signs.Less) ts rest e refl refl

-- a name that may be bound
free_kept : (c : Context) (x : List ℕ) → IsFreeName (names_in c) x → first_broken (rules roles.PartName c (token (tokens.name x))) ≡ None
free_kept c x free =
    let short : nat_lt 32 (length x) ≡ false = grind (arith, nat_tests, free.short) in
    rw (not_among c.channels x free.no_channel, not_among c.registers x free.no_register, not_among c.inners x free.no_inner, short) refl

abbrev Named : List ℕ → Token → Type 0
Named x t = (t ≡ tokens.name x) ⊎ (t ≡ tokens.inner x)

-- a name that a part binds, where a part is wanted alone or before more
abbrev BeginsPart : Part → List Part → Type 0
BeginsPart p w = (x : List ℕ) (t : Token) (d : Bool) → Named x t → pick p (token t) d ≡ Some (form roles.PartName w)

part_alone : BeginsPart (parts.Only roles.PartName) []
unfolding pick pick_plain
part_alone x t d (inl e) = rw e refl
part_alone x t d (inr e) = rw e refl

part_more : BeginsPart parts.Parts (bound_event (parts.Parts ∷ []))
unfolding pick
part_more x t d (inl e) = rw e refl
part_more x t d (inr e) = rw e refl

part_name : (p : Part) (w : List Part) → BeginsPart p w → (x : List ℕ) (c : Context) (b : Brace) (bs : List Brace)
    (n : Tally) (wanted : List Part) (ts rest : List Token) → IsFreeName (names_in c) x → bound_name x ts rest
    → Goes (p ∷ wanted) (at c b bs n) ts (w ++ wanted) (at (record c { bound = x ∷ c.bound }) (behind_name b) bs (one_node n)) rest
part_name p w is x c b bs n wanted ts rest free (inl e) = goes p (form roles.PartName w) wanted (at c b bs n)
    (tokens.name x) ts rest e (is x (tokens.name x) (dotted rest) (inl refl)) (free_kept (at c b bs n) x free)
part_name p w is x c b bs n wanted ts rest free (inr e) = goes p (form roles.PartName w) wanted (at c b bs n)
    (tokens.inner x) ts rest e (is x (tokens.inner x) (dotted rest) (inr refl)) (free_kept (at c b bs n) x free)

-- ---- the promises

-- at most four calculations in each tuple
abbrev pub AreFew : Term → Type 0
AreFew (always e) = IsFew e
AreFew never = Unit {0}
AreFew fresh = Unit {0}
AreFew (throw e) = IsFew e
AreFew (send p e) = IsFew e
AreFew (recv p) = Unit {0}
AreFew (and_then e n f) = AreFew e × AreFew f
AreFew (choose e f) = AreFew e × AreFew f
AreFew (catch e n h) = AreFew e × AreFew h
AreFew (when o p q e f) = AreFew e × AreFew f

-- so many braces are open, and the event still has room behind so many nodes
abbrev pub HasDepth : ℕ → Tally → Term → Type 0
HasDepth k n t = (k + height t ≤ 33) × (n.fresh + fresh_count t ≤ 16)

abbrev pub Alone : Term → Type 0
Alone t =
    (c : Context) (b : Brace) (bs : List Brace) (n : Tally) (wanted : List Part) (ts rest : List Token)
    → spells_event true alone (names_in c) t ts rest → AreFew t → HasDepth (length (b ∷ bs)) n t → c.calculations ≡ 0
    → dotted rest ≡ false
    → Goes (parts.Event ∷ wanted) (at c b bs n) ts wanted (at c (reached b t) bs (tally_with_event n t)) rest

abbrev InDo : Term → Type 0
InDo t =
    (c : Context) (b b0 : Brace) (bs : List Brace) (n : Tally) (wanted : List Part) (ts rest : List Token)
    → spells_event true in_do (names_in c) t ts rest → AreFew t → HasDepth (length (b ∷ b0 ∷ bs)) n t
    → c.calculations ≡ 0 → b.outer ≤ length c.inners
    → Goes (parts.Parts ∷ wanted) (at c b (b0 ∷ bs) n) ts wanted (at (cut b c) (reaching (depth_within (reached b t)) b0) bs (tally_with_event n t)) rest

-- no event stands behind the last bar yet
abbrev pub fresh_bar : Brace → Brace
fresh_bar b = record b { deepest = 0 }

abbrev InChoose : Term → Type 0
InChoose t =
    (c : Context) (b b0 : Brace) (bs : List Brace) (n : Tally) (wanted : List Part) (ts rest : List Token)
    → spells_event true in_choose (names_in c) t ts rest → AreFew t → HasDepth (length (b ∷ b0 ∷ bs)) n t
    → c.calculations ≡ 0 → b.outer ≤ length c.inners
    → Goes (parts.Event ∷ parts.Bars ∷ wanted) (at c (fresh_bar b) (b0 ∷ bs) n) ts wanted (at (cut b c) (reaching (depth_within (reached (fresh_bar b) t)) b0) bs (tally_with_event n t)) rest

record Passes (t : Term) : Type 0 where
  by_itself : Alone t
  after_part : InDo t
  after_bar : InChoose t

-- ---- an event before its closing brace

-- behind a part, an event's word is that of the last event and the brace
pub parts_as_event : (c : Context) (wanted : List Part) (w : Word) (ts m : List Token) → ts ≡ word w ∷ m
    → run (parts.Parts ∷ wanted) c (spots_of ts) ≡ run (parts.Event ∷ parts.Only roles.Close ∷ wanted) c (spots_of ts)
unfolding run pick pick_plain
parts_as_event c wanted w ts m e = rw e (by (event_form (token (word w)))) where
  by : (o : Option Form)
      → next_found (λ x y. run x y (spots_of m)) wanted c (record { head = token (word w); dotted = dotted m; left = 0 }) (option_map (then_also (parts.Only roles.Close)) o)
      ≡ next_found (λ x y. run x y (spots_of m)) (parts.Only roles.Close ∷ wanted) c (record { head = token (word w); dotted = dotted m; left = 0 }) o
  by None = refl
  by (Some f) = rw (append_assoc f.wanted (parts.Only roles.Close ∷ []) wanted) refl

pub begins_with_word : (t : Term) (s : Names) (ts rest : List Token) → spells_event true alone s t ts rest → (w : Word) × (m : List Token) × (ts ≡ word w ∷ m)
begins_with_word (always e) s ts rest h = (words.Always, h.0, h.1)
begins_with_word never s ts rest h = (words.Never, rest, h)
begins_with_word fresh s ts rest h = (words.Fresh, rest, h)
begins_with_word (throw e) s ts rest h = (words.Throw, h.0, h.1)
begins_with_word (send p e) s ts rest h = (words.Send, h.0, h.1)
begins_with_word (recv p) s ts rest h = (words.Recv, h.0, h.1)
begins_with_word (and_then e n f) s ts rest h = (words.Do, h.0, h.1)
begins_with_word (choose e f) s ts rest h = (words.Choose, h.0, h.1)
begins_with_word (catch e n f) s ts rest h = (words.Try, h.0, h.1)
begins_with_word (when o p q e f) s ts rest h = (words.If, h.0, h.1)

-- the event by itself, and its brace
abbrev pub ClosedEvent : Names → Term → List Token → List Token → Type 0
ClosedEvent s t ts rest = (m : List Token) × spells_event true alone s t ts m × (m ≡ sign signs.CloseBrace ∷ rest)

closed_in_do : (t : Term) → Alone t → (c : Context) (b b0 : Brace) (bs : List Brace) (n : Tally) (wanted : List Part)
    (ts rest : List Token) → ClosedEvent (names_in c) t ts rest → AreFew t → HasDepth (length (b ∷ b0 ∷ bs)) n t
    → c.calculations ≡ 0
    → Goes (parts.Parts ∷ wanted) (at c b (b0 ∷ bs) n) ts wanted (at (cut b c) (reaching (depth_within (reached b t)) b0) bs (tally_with_event n t)) rest
closed_in_do t a c b b0 bs n wanted ts rest h few low none =
    let w = begins_with_word t (names_in c) ts h.0 h.1 in
    parts_as_event (at c b (b0 ∷ bs) n) wanted w.0 ts w.1 w.2
    ∙ a c b (b0 ∷ bs) n (parts.Only roles.Close ∷ wanted) ts h.0 h.1 few low none (rw h.2 refl)
    ∙ close_alone c (reached b t) b0 bs (tally_with_event n t) wanted h.0 rest h.2

closed_in_choose : (t : Term) → Alone t → (c : Context) (b b0 : Brace) (bs : List Brace) (n : Tally)
    (wanted : List Part) (ts rest : List Token) → ClosedEvent (names_in c) t ts rest → AreFew t
    → HasDepth (length (b ∷ b0 ∷ bs)) n t → c.calculations ≡ 0
    → Goes (parts.Event ∷ parts.Bars ∷ wanted) (at c (fresh_bar b) (b0 ∷ bs) n) ts wanted (at (cut b c) (reaching (depth_within (reached (fresh_bar b) t)) b0) bs (tally_with_event n t)) rest
closed_in_choose t a c b b0 bs n wanted ts rest h few low none =
    a c (fresh_bar b) (b0 ∷ bs) n (parts.Bars ∷ wanted) ts h.0 h.1 few low none (rw h.2 refl)
    ∙ close_bars c (reached (fresh_bar b) t) b0 bs (tally_with_event n t) wanted h.0 rest h.2

-- ---- events of one node

-- a node behind others, of which so many make a channel
leaf_same : (c : Context) (b : Brace) (bs : List Brace) (n context_after : Tally) (h k m : ℕ) → h ≡ 1
    → context_after.nodes ≡ n.nodes + k → context_after.fresh ≡ n.fresh + m
    → at c (reaching b.level b) bs context_after ≡ at c (reaching (b.level + h - 1) b) bs
    (record { nodes = n.nodes + k; fresh = n.fresh + m })
leaf_same c b bs n context_after h k m e f g = at_same c _ _ bs _ _ (ap (λ d. reaching d b) (omega (arith, e))) (tally_same _ _ f g)

-- the word of an event
word_goes : (w : Word) (f : Form) → event_form (token (word w)) ≡ Some f
    → (c : Context) (wanted : List Part) (ts rest : List Token) → ts ≡ word w ∷ rest
    → first_broken (rules f.role c (token (word w))) ≡ None
    → Goes (parts.Event ∷ wanted) c ts (f.wanted ++ wanted) (context_after f.role c (token (word w))) rest
unfolding pick pick_plain
word_goes w f e c wanted ts rest is kept = goes parts.Event f wanted c (word w) ts rest is e kept

always_goes : (e : Expression) → Alone (always e)
always_goes e c b bs n wanted ts rest h few low none plain =
    let d = at c (reaching b.level b) bs (one_node n) in
    word_goes words.Always (form (roles.Leaf words.Always) (parts.Expression ∷ [])) refl (at c b bs n) wanted ts h.0 h.1 (rw (shallow (length (b ∷ bs)) 1 low.0 (omega arith)) refl)
    ∙ expression_goes e wanted d h.0 rest h.2 few none
    ∙ ap (λ x. run wanted x (spots_of rest)) (leaf_same c b bs n (one_node n) 1 1 0 refl (omega arith) (omega arith))

never_goes : Alone never
never_goes c b bs n wanted ts rest h few low none plain =
    word_goes words.Never (form (roles.Leaf words.Never) []) refl (at c b bs n) wanted ts rest h (rw (shallow (length (b ∷ bs)) 1 low.0 (omega arith)) refl)
    ∙ ap (λ x. run wanted x (spots_of rest)) (leaf_same c b bs n (one_node n) 1 1 0 refl (omega arith) (omega arith))

fresh_goes : Alone fresh
fresh_goes c b bs n wanted ts rest h few low none plain =
    let room : nat_le 16 n.fresh ≡ false = grind (arith, nat_tests, low.1) in
    word_goes words.Fresh (form roles.Fresh []) refl (at c b bs n) wanted ts rest h (rw (shallow (length (b ∷ bs)) 1 low.0 (omega arith), room) refl)
    ∙ ap (λ x. run wanted x (spots_of rest)) (leaf_same c b bs n (one_channel n) 1 1 1 refl (omega arith) (omega arith))

throw_goes : (e : Expression) → Alone (throw e)
throw_goes e c b bs n wanted ts rest h few low none plain =
    let d = at c (reaching b.level b) bs (one_node n) in
    word_goes words.Throw (form (roles.Leaf words.Throw) (parts.Expression ∷ [])) refl (at c b bs n) wanted ts h.0 h.1 (rw (shallow (length (b ∷ bs)) 1 low.0 (omega arith)) refl)
    ∙ expression_goes e wanted d h.0 rest h.2 few none
    ∙ ap (λ x. run wanted x (spots_of rest)) (leaf_same c b bs n (one_node n) 1 1 0 refl (omega arith) (omega arith))

send_goes : (p : Primitive) (e : Expression) → Alone (send p e)
send_goes p e c b bs n wanted ts rest h few low none plain =
    let d = at c (reaching b.level b) bs (one_node n) in
    let k = h.2 in
    word_goes words.Send (form (roles.Leaf words.Send) (parts.Operand ∷ parts.Expression ∷ [])) refl (at c b bs n) wanted ts h.0 h.1 (rw (shallow (length (b ∷ bs)) 1 low.0 (omega arith)) refl)
    ∙ primitive_goes parts.Operand false [] operand_is p (parts.Expression ∷ wanted) d h.0 k.0 k.1 refl (expression_plain d e k.0 rest k.2)
    ∙ expression_goes e wanted d k.0 rest k.2 few none
    ∙ ap (λ x. run wanted x (spots_of rest)) (leaf_same c b bs n (one_node n) 1 1 0 refl (omega arith) (omega arith))

recv_goes : (p : Primitive) → Alone (recv p)
recv_goes p c b bs n wanted ts rest h few low none plain =
    let d = at c (reaching b.level b) bs (one_node n) in
    word_goes words.Recv (form (roles.Leaf words.Recv) (parts.Operand ∷ [])) refl (at c b bs n) wanted ts h.0 h.1 (rw (shallow (length (b ∷ bs)) 1 low.0 (omega arith)) refl)
    ∙ primitive_goes parts.Operand false [] operand_is p wanted d h.0 rest h.2 refl plain
    ∙ ap (λ x. run wanted x (spots_of rest)) (leaf_same c b bs n (one_node n) 1 1 0 refl (omega arith) (omega arith))

-- ---- events with parts

pub take_front : (k : ℕ) (xs ys : List (List ℕ)) → k ≤ length xs → take k (xs ++ ys) ≡ take k xs
take_front zero xs ys h = refl
take_front (suc k) [] ys h = absurd (omega arith)
take_front (suc k) (x ∷ xs) ys h = ap (λ zs. x ∷ zs) (take_front k xs ys (omega (arith, h)))

-- a brace that is opened at this level
abbrev pub opened_at : ℕ → Context → Brace
opened_at l c = record { outer = length c.inners; level = l; deepest = 0; settled = 0 }

-- with the inner names of the context
abbrev pub with_inners : Context → List (List ℕ) → Context
with_inners c xs = record c { inners = xs }

-- an event in braces
braced_goes : (e : Term) → Alone e → (c : Context) (b : Brace) (bs : List Brace) (n : Tally) (wanted : List Part)
    (ts rest : List Token) → in_braces (spells_event true alone (names_in c) e) ts rest → AreFew e
    → HasDepth (suc (length (b ∷ bs))) n e → c.calculations ≡ 0
    → Goes (parts.Only roles.OpenBranch ∷ parts.Event ∷ parts.Only roles.Close ∷ wanted) (at c b bs n) ts wanted (at c (reaching (suc b.level + height e - 1) b) bs (tally_with_event n e)) rest
braced_goes e a c b bs n wanted ts rest h few low none =
    let i = opened_at (suc b.level) c in
    let k = h.2 in
    goes_alone roles.OpenBranch (parts.Event ∷ parts.Only roles.Close ∷ wanted) (at c b bs n) (sign signs.OpenBrace) ts h.0 h.1 refl refl
    ∙ a c i (b ∷ bs) n (parts.Only roles.Close ∷ wanted) h.0 k.0 k.1 few low none (rw k.2 refl)
    ∙ close_alone c (reached i e) b bs (tally_with_event n e) wanted k.0 rest k.2
    ∙ ap (λ x. run wanted (at (with_inners c x) (reaching (depth_within (reached i e)) b) bs (tally_with_event n e)) (spots_of rest)) (whole_taken c.inners)
    ∙ ap (λ x. run wanted x (spots_of rest)) (at_same c _ _ bs _ _ (reaching_same b _ _ (omega arith)) refl)

-- a part, and what goes on behind it
abbrev pub PartAndMore : Names → Term → Term → List Token → List Token → Type 0
PartAndMore s e f ts rest = binds true s (λ x. do_parts (spells_event true alone s e) (spells_event true in_do (with_inner s x) f)) ts rest

part_goes : (p : Part) (w tail : List Part) → BeginsPart p w → (e : Term) (m : ℕ) (f : Term) → Alone e → InDo f
    → (c : Context) (b b0 : Brace) (bs : List Brace) (n : Tally) (wanted : List Part) (ts rest : List Token)
    → w ++ tail ≡ bound_event (parts.Parts ∷ wanted)
    → PartAndMore (names_in c) e f ts rest → AreFew (and_then e m f) → HasDepth (length (b0 ∷ bs)) n (and_then e m f) → c.calculations ≡ 0 → b.outer ≤ length c.inners
    → Goes (p ∷ tail) (at c b (b0 ∷ bs) n) ts wanted (at (cut b c) (reaching (depth_within (reached b (and_then e m f))) b0) bs (tally_with_event n (and_then e m f))) rest
part_goes p w tail is e m f a d c b b0 bs n wanted ts rest same h few low none room =
    let x = h.0 in
    let named = h.1.1 in
    let arrow = named.2 in
    let event = arrow.2 in
    let ends = event.2 in
    let inside = record c { bound = x ∷ c.bound } in
    let more = with_inners c (c.inners ++ x ∷ []) in
    let b1 = behind_name b in
    let b2 = reached b1 e in
    let fresh = parts.Parts ∷ wanted in
    part_name p w is x c b (b0 ∷ bs) n tail ts named.0 h.1.0 named.1
    ∙ ap (λ q. run q (at inside b1 (b0 ∷ bs) (one_node n)) (spots_of named.0)) same
    ∙ goes_alone (roles.Sign signs.Arrow) (parts.Event ∷ parts.Only roles.PartEnd ∷ fresh) (at inside b1 (b0 ∷ bs) (one_node n)) (sign signs.Arrow) named.0 arrow.0 arrow.1 refl refl
    ∙ a inside b1 (b0 ∷ bs) (one_node n) (parts.Only roles.PartEnd ∷ fresh) arrow.0 event.0 event.1 few.0 (omega (arith, low.0), omega (arith, low.1)) none (rw ends.1 refl)
    ∙ goes_alone roles.PartEnd fresh (at inside b2 (b0 ∷ bs) (tally_with_event (one_node n) e)) (sign signs.Semicolon) event.0 ends.0 ends.1 refl refl
    ∙ d more b2 b0 bs (tally_with_event (one_node n) e) wanted ends.0 rest ends.2 few.1 (omega (arith, low.0), omega (arith, low.1)) none (omega (arith, room, length-append c.inners (x ∷ [])))
    ∙ ap (λ y. run wanted (at (with_inners c y) (reaching (depth_within (reached b2 f)) b0) bs
    (tally_with_event (tally_with_event (one_node n) e) f)) (spots_of rest))
    (take_front b.outer c.inners (x ∷ []) room)
    ∙ ap (λ y. run wanted y (spots_of rest))
    (at_same (cut b c) _ _ bs _ _ (reaching_same b0 _ _ (ap (λ k. max b0.deepest (max b.settled k))
    (deeper b.deepest b.level (height e) (height f) (some_height e) (some_height f))))
    (tally_same _ _ (omega arith) (omega arith)))

do_goes : (e : Term) (m : ℕ) (f : Term) → Alone e → InDo f → Alone (and_then e m f)
do_goes e m f a d c b bs n wanted ts rest h few low none plain =
    let i = opened_at b.level c in
    let t = and_then e m f in
    let k = h.2 in
    word_goes words.Do (form (roles.Chain words.Do) (parts.Only roles.OpenChain ∷ parts.Only roles.PartName ∷ bound_event (parts.Parts ∷ []))) refl (at c b bs n) wanted ts h.0 h.1
    (rw (shallow (length (b ∷ bs)) (height t) low.0 (some_height t)) refl)
    ∙ goes_alone roles.OpenChain (parts.Only roles.PartName ∷ bound_event (parts.Parts ∷ wanted)) (at c b bs n) (sign signs.OpenBrace) h.0 k.0 k.1 refl refl
    ∙ part_goes (parts.Only roles.PartName) [] (bound_event (parts.Parts ∷ wanted)) part_alone e m f a d c i b bs n
    wanted k.0 rest refl k.2 few (omega (arith, low.0), omega (arith, low.1)) none (omega arith)
    ∙ ap (λ y. run wanted (at (with_inners c y) (reaching (depth_within (reached i t)) b) bs (tally_with_event n t)) (spots_of rest)) (whole_taken c.inners)
    ∙ ap (λ y. run wanted y (spots_of rest)) (at_same c _ _ bs _ _ (reaching_same b _ _ (omega arith)) refl)

-- a bar, and what goes on behind it
abbrev BeginsBar : Part → List Part → List Part → Type 0
BeginsBar p tail wanted =
    (c : Context) (b : Brace) (bs : List Brace) (n : Tally) (ts rest : List Token) → ts ≡ sign signs.Bar ∷ rest
    → Goes (p ∷ tail) (at c b bs n) ts (parts.Event ∷ parts.Bars ∷ wanted) (at c (behind_bar b) bs (one_node n)) rest

abbrev pub EventAndMore : Names → Term → Term → List Token → List Token → Type 0
EventAndMore s e f ts rest = (spells_event true alone s e ⨟ is (sign signs.Bar) ⨟ spells_event true in_choose s f) ts rest

pub settled_deeper : (d l a b : ℕ) → 1 ≤ a → 1 ≤ b → max (max d (suc (max 0 (l + a - 1)))) (max 0 (suc l + b - 1)) ≡ max d (max 0 (l + (1 + max a b) - 1))
settled_deeper d l a b ha hb = omega (arith, ha, hb)

bar_goes : (p : Part) (tail : List Part) (e f : Term) → Alone e → InChoose f
    → (c : Context) (b b0 : Brace) (bs : List Brace) (n : Tally) (wanted : List Part) (ts rest : List Token)
    → BeginsBar p tail wanted
    → EventAndMore (names_in c) e f ts rest → AreFew (choose e f) → HasDepth (length (b0 ∷ bs)) n (choose e f) → c.calculations ≡ 0 → b.outer ≤ length c.inners
    → Goes (parts.Event ∷ p ∷ tail) (at c (fresh_bar b) (b0 ∷ bs) n) ts wanted
    (at (cut b c) (reaching (depth_within (reached (fresh_bar b) (choose e f))) b0) bs
    (tally_with_event n (choose e f))) rest
bar_goes p tail e f a d c b b0 bs n wanted ts rest begins h few low none room =
    let b1 = reached (fresh_bar b) e in
    let b2 = behind_bar b1 in
    let k = h.2 in
    a c (fresh_bar b) (b0 ∷ bs) n (p ∷ tail) ts h.0 h.1 few.0 (omega (arith, low.0), omega (arith, low.1)) none (rw k.1 refl)
    ∙ begins c b1 (b0 ∷ bs) (tally_with_event n e) h.0 k.0 k.1
    ∙ d c b2 b0 bs (one_node (tally_with_event n e)) wanted k.0 rest k.2 few.1 (omega (arith, low.0), omega (arith, low.1)) none room
    ∙ ap (λ y. run wanted y (spots_of rest)) (at_same (cut b c) _ _ bs _ _
    (reaching_same b0 _ _ (ap (λ x. max b0.deepest x) (settled_deeper b.settled b.level (height e) (height f)
    (some_height e) (some_height f)))) (tally_same _ _ (omega arith) (omega arith)))

choose_goes : (e f : Term) → Alone e → InChoose f → Alone (choose e f)
choose_goes e f a d c b bs n wanted ts rest h few low none plain =
    let i = opened_at b.level c in
    let t = choose e f in
    let k = h.2 in
    word_goes words.Choose (form (roles.Chain words.Choose) (parts.Only roles.OpenChain ∷ parts.Event ∷ parts.Only roles.Bar ∷ parts.Event ∷ parts.Bars ∷ [])) refl (at c b bs n) wanted ts h.0 h.1
    (rw (shallow (length (b ∷ bs)) (height t) low.0 (some_height t)) refl)
    ∙ goes_alone roles.OpenChain (parts.Event ∷ parts.Only roles.Bar ∷ parts.Event ∷ parts.Bars ∷ wanted) (at c b bs n) (sign signs.OpenBrace) h.0 k.0 k.1 refl refl
    ∙ bar_goes (parts.Only roles.Bar) (parts.Event ∷ parts.Bars ∷ wanted) e f a d c i b bs n wanted k.0 rest
    (λ c b bs n ts rest e. bar_alone c b bs n (parts.Event ∷ parts.Bars ∷ wanted) ts rest e) k.2 few low none
    (omega arith)
    ∙ ap (λ y. run wanted (at (with_inners c y) (reaching (depth_within (reached i t)) b) bs (tally_with_event n t)) (spots_of rest)) (whole_taken c.inners)
    ∙ ap (λ y. run wanted y (spots_of rest)) (at_same c _ _ bs _ _ (reaching_same b _ _ (omega arith)) refl)

-- the event of a `catch`, behind its name
catch_goes : (e : Term) → Alone e → (x : List ℕ) (c : Context) (b : Brace) (bs : List Brace) (n : Tally)
    (wanted : List Part) (ts rest : List Token) → IsFreeName (names_in c) x
    → (bound_name x ⨟ in_braces (spells_event true alone (with_inner (names_in c) x) e)) ts rest → AreFew e
    → HasDepth (suc (length (b ∷ bs))) n e → c.calculations ≡ 0
    → Goes (parts.Only roles.CatchName ∷ parts.Only (roles.Sign signs.OpenBrace) ∷ parts.Event ∷ parts.Only roles.Close
    ∷ wanted) (at c b bs n) ts wanted (at c (reaching (suc b.level + height e - 1) b) bs (tally_with_event n e)) rest
catch_goes e a x c b bs n wanted ts rest free h few low none =
    let i = opened_at (suc b.level) c in
    let inside = with_inners c (c.inners ++ x ∷ []) in
    let brace = h.2 in
    let k = brace.2 in
    name_goes h.1
    ∙ goes_alone (roles.Sign signs.OpenBrace) (parts.Event ∷ parts.Only roles.Close ∷ wanted) (at inside i (b ∷ bs) n) (sign signs.OpenBrace) h.0 brace.0 brace.1 refl refl
    ∙ a inside i (b ∷ bs) n (parts.Only roles.Close ∷ wanted) brace.0 k.0 k.1 few low none (rw k.2 refl)
    ∙ close_alone inside (reached i e) b bs (tally_with_event n e) wanted k.0 rest k.2
    ∙ ap (λ y. run wanted (at (with_inners c y) (reaching (depth_within (reached i e)) b) bs (tally_with_event n e))
    (spots_of rest)) (take_front (length c.inners) c.inners (x ∷ []) (omega arith) ∙ whole_taken c.inners)
    ∙ ap (λ y. run wanted y (spots_of rest)) (at_same c _ _ bs _ _ (reaching_same b _ _ (omega arith)) refl) where
      name_goes : bound_name x ts h.0
          → Goes (parts.Only roles.CatchName ∷ parts.Only (roles.Sign signs.OpenBrace) ∷ parts.Event ∷ parts.Only roles.Close ∷ wanted) (at c b bs n) ts
          (parts.Only (roles.Sign signs.OpenBrace) ∷ parts.Event ∷ parts.Only roles.Close ∷ wanted) (at (with_inners c (c.inners ++ x ∷ [])) (opened_at (suc b.level) c) (b ∷ bs) n) h.0
      name_goes (inl e) = goes_alone roles.CatchName (parts.Only (roles.Sign signs.OpenBrace) ∷ parts.Event
          ∷ parts.Only roles.Close ∷ wanted) (at c b bs n) (tokens.name x) ts h.0 e refl (free_kept (at c b bs n) x free)
      name_goes (inr e) = goes_alone roles.CatchName (parts.Only (roles.Sign signs.OpenBrace) ∷ parts.Event
          ∷ parts.Only roles.Close ∷ wanted) (at c b bs n) (tokens.inner x) ts h.0 e refl (free_kept (at c b bs n) x free)

try_goes : (e : Term) (m : ℕ) (f : Term) → Alone e → Alone f → Alone (catch e m f)
try_goes e m f a d c b bs n wanted ts rest h few low none plain =
    let t = catch e m f in
    let k = h.2 in
    let l = k.2 in
    let name = l.2 in
    let b1 = reaching (suc b.level + height e - 1) b in
    let handler = parts.Only roles.CatchName ∷ parts.Only (roles.Sign signs.OpenBrace) ∷ parts.Event ∷ parts.Only roles.Close ∷ wanted in
    word_goes words.Try
    (form (roles.Branch words.Try)
    (parts.Only roles.OpenBranch ∷ parts.Event ∷ parts.Only roles.Close ∷ parts.Only (roles.Word words.Catch)
    ∷ parts.Only roles.CatchName ∷ parts.Only (roles.Sign signs.OpenBrace) ∷ parts.Event ∷ parts.Only roles.Close ∷ [])) refl (at c b bs n) wanted ts h.0 h.1
    (rw (shallow (length (b ∷ bs)) (height t) low.0 (some_height t)) refl)
    ∙ braced_goes e a c b bs (one_node n) (parts.Only (roles.Word words.Catch) ∷ handler) h.0 k.0 k.1 few.0 (omega (arith, low.0), omega (arith, low.1)) none
    ∙ goes_alone (roles.Word words.Catch) handler (at c b1 bs (tally_with_event (one_node n) e)) (word words.Catch) k.0 l.0 l.1 refl refl
    ∙ catch_goes f d name.0 c b1 bs (tally_with_event (one_node n) e) wanted l.0 rest name.1.0 name.1.1 few.1 (omega (arith, low.0), omega (arith, low.1)) none
    ∙ ap (λ y. run wanted y (spots_of rest)) (at_same c _ _ bs _ _
    (ap (λ x. record b { deepest = x }) (deeper b.deepest b.level (height e) (height f) (some_height e)
    (some_height f))) (tally_same _ _ (omega arith) (omega arith)))

test_plain : (o : Test) (ts : List Token) → dotted (sign (test_sign o) ∷ ts) ≡ false
test_plain tests.Equal ts = refl
test_plain tests.Less ts = refl

if_goes : (o : Test) (p q : Primitive) (e f : Term) → Alone e → Alone f → Alone (when o p q e f)
if_goes o p q e f a d c b bs n wanted ts rest h few low none plain =
    let t = when o p q e f in
    let left = h.2 in
    let test = left.2 in
    let right = test.2 in
    let then_part = right.2 in
    let else_word = then_part.2 in
    let b1 = reaching (suc b.level + height e - 1) b in
    let second = parts.Only roles.OpenBranch ∷ parts.Event ∷ parts.Only roles.Close ∷ wanted in
    let both = parts.Only roles.OpenBranch ∷ parts.Event ∷ parts.Only roles.Close ∷ parts.Only (roles.Word words.Else) ∷ second in
    let here = at c b bs (one_node n) in
    word_goes words.If
    (form (roles.Branch words.If)
    (parts.Operand ∷ parts.Test ∷ parts.Operand ∷ parts.Only roles.OpenBranch ∷ parts.Event ∷ parts.Only roles.Close
    ∷ parts.Only (roles.Word words.Else) ∷ parts.Only roles.OpenBranch ∷ parts.Event ∷ parts.Only roles.Close ∷ [])) refl (at c b bs n) wanted ts h.0 h.1
    (rw (shallow (length (b ∷ bs)) (height t) low.0 (some_height t)) refl)
    ∙ primitive_goes parts.Operand false [] operand_is p (parts.Test ∷ parts.Operand ∷ both) here h.0 left.0 left.1 refl (rw test.1 (test_plain o test.0))
    ∙ test_goes o here (parts.Operand ∷ both) left.0 test.0 test.1
    ∙ primitive_goes parts.Operand false [] operand_is q both here test.0 right.0 right.1 refl (rw then_part.1.1 refl)
    ∙ braced_goes e a c b bs (one_node n) (parts.Only (roles.Word words.Else) ∷ second) right.0 then_part.0 then_part.1 few.0 (omega (arith, low.0), omega (arith, low.1)) none
    ∙ goes_alone (roles.Word words.Else) second (at c b1 bs (tally_with_event (one_node n) e)) (word words.Else) then_part.0 else_word.0 else_word.1 refl refl
    ∙ braced_goes f d c b1 bs (tally_with_event (one_node n) e) wanted else_word.0 rest else_word.2 few.1 (omega (arith, low.0), omega (arith, low.1)) none
    ∙ ap (λ y. run wanted y (spots_of rest)) (at_same c _ _ bs _ _
    (ap (λ x. record b { deepest = x }) (deeper b.deepest b.level (height e) (height f) (some_height e)
    (some_height f))) (tally_same _ _ (omega arith) (omega arith)))

-- ---- every event

then_passes : (e : Term) (m : ℕ) (f : Term) → Passes e → Passes f → Passes (and_then e m f)
then_passes e m f x y =
    let a = do_goes e m f x.by_itself y.after_part in
    record {
      by_itself = a;
      after_part = λ c b b0 bs n wanted ts rest h few low none room. by c b b0 bs n wanted ts rest few low none room h;
      after_bar = λ c b b0 bs n wanted ts rest h few low none room. closed_in_choose (and_then e m f) a c b b0 bs n wanted ts rest h few low none;
    } where
      by : (c : Context) (b b0 : Brace) (bs : List Brace) (n : Tally) (wanted : List Part) (ts rest : List Token)
          → AreFew (and_then e m f) → HasDepth (length (b ∷ b0 ∷ bs)) n (and_then e m f) → c.calculations ≡ 0
          → b.outer ≤ length c.inners
          → spells_event true in_do (names_in c) (and_then e m f) ts rest
          → Goes (parts.Parts ∷ wanted) (at c b (b0 ∷ bs) n) ts wanted (at (cut b c) (reaching (depth_within (reached b (and_then e m f))) b0) bs (tally_with_event n (and_then e m f))) rest
      by c b b0 bs n wanted ts rest few low none room (inl h) = closed_in_do (and_then e m f) (do_goes e m f x.by_itself y.after_part) c b b0 bs n wanted ts rest h few low none
      by c b b0 bs n wanted ts rest few low none room (inr h) =
          part_goes parts.Parts (bound_event (parts.Parts ∷ [])) wanted part_more e m f x.by_itself y.after_part c b b0
          bs n wanted ts rest refl h few (omega (arith, low.0), omega (arith, low.1)) none room

choice_passes : (e f : Term) → Passes e → Passes f → Passes (choose e f)
choice_passes e f x y =
    let a = choose_goes e f x.by_itself y.after_bar in
    record {
      by_itself = a;
      after_part = λ c b b0 bs n wanted ts rest h few low none room. closed_in_do (choose e f) a c b b0 bs n wanted ts rest h few low none;
      after_bar = λ c b b0 bs n wanted ts rest h few low none room. by c b b0 bs n wanted ts rest few low none room h;
    } where
      by : (c : Context) (b b0 : Brace) (bs : List Brace) (n : Tally) (wanted : List Part) (ts rest : List Token)
          → AreFew (choose e f) → HasDepth (length (b ∷ b0 ∷ bs)) n (choose e f) → c.calculations ≡ 0
          → b.outer ≤ length c.inners
          → spells_event true in_choose (names_in c) (choose e f) ts rest
          → Goes (parts.Event ∷ parts.Bars ∷ wanted) (at c (fresh_bar b) (b0 ∷ bs) n) ts wanted
          (at (cut b c) (reaching (depth_within (reached (fresh_bar b) (choose e f))) b0) bs
          (tally_with_event n (choose e f))) rest
      by c b b0 bs n wanted ts rest few low none room (inl h) = closed_in_choose (choose e f) (choose_goes e f x.by_itself y.after_bar) c b b0 bs n wanted ts rest h few low none
      by c b b0 bs n wanted ts rest few low none room (inr h) =
          bar_goes parts.Bars wanted e f x.by_itself y.after_bar c b b0 bs n wanted ts rest
          (λ c b bs n ts rest e. bar_bars c b bs n wanted ts rest e) h few
          (omega (arith, low.0), omega (arith, low.1)) none room

-- an event that a brace follows wherever it stands
closed_passes : (t : Term) → ((c : Context) (ts rest : List Token) → spells_event true in_do (names_in c) t ts rest → ClosedEvent (names_in c) t ts rest)
    → ((c : Context) (ts rest : List Token) → spells_event true in_choose (names_in c) t ts rest → ClosedEvent (names_in c) t ts rest) → Alone t → Passes t
closed_passes t in_parts in_bars a = record {
  by_itself = a;
  after_part = λ c b b0 bs n wanted ts rest h few low none room. closed_in_do t a c b b0 bs n wanted ts rest (in_parts c ts rest h) few low none;
  after_bar = λ c b b0 bs n wanted ts rest h few low none room. closed_in_choose t a c b b0 bs n wanted ts rest (in_bars c ts rest h) few low none;
}

event_passes : (t : Term) → Passes t
event_passes (always e) = closed_passes (always e) (λ c ts rest h. h) (λ c ts rest h. h) (always_goes e)
event_passes never = closed_passes never (λ c ts rest h. h) (λ c ts rest h. h) never_goes
event_passes fresh = closed_passes fresh (λ c ts rest h. h) (λ c ts rest h. h) fresh_goes
event_passes (throw e) = closed_passes (throw e) (λ c ts rest h. h) (λ c ts rest h. h) (throw_goes e)
event_passes (send p e) = closed_passes (send p e) (λ c ts rest h. h) (λ c ts rest h. h) (send_goes p e)
event_passes (recv p) = closed_passes (recv p) (λ c ts rest h. h) (λ c ts rest h. h) (recv_goes p)
event_passes (and_then e m f) = then_passes e m f (event_passes e) (event_passes f)
event_passes (choose e f) = choice_passes e f (event_passes e) (event_passes f)
event_passes (catch e m f) = closed_passes (catch e m f) (λ c ts rest h. h) (λ c ts rest h. h) (try_goes e m f (event_passes e).by_itself (event_passes f).by_itself)
event_passes (when o p q e f) = closed_passes (when o p q e f) (λ c ts rest h. h) (λ c ts rest h. h) (if_goes o p q e f (event_passes e).by_itself (event_passes f).by_itself)

pub event_goes : (t : Term) → Alone t
event_goes t = (event_passes t).by_itself
