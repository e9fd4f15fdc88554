-- The form that is picked for a token is one of the part's, and no other fits the token.
use Rattle.std.proofs.Common.{◌≡◌, ℕ, ◌≤◌, Bool, true, false, List, [], ◌∷◌, refl, sym, ap, subst, inl, inr, arith, eq-eqb}
use Rattle.std.specs.Prelude.{Option, Some, None, ◌⊎◌, pos, negsuc, ℤ, map}
use Rattle.std.specs.Option.{option_map}
use Rattle.std.proofs.lemmas.Bool.Decides.{nat_tests}
use Rattle.te_reader.specs.declared.token.Word.{Word}
use Rattle.te_reader.specs.declared.token.Word.TheVariants as words
use Rattle.te_reader.specs.declared.token.Sign.{Sign}
use Rattle.te_reader.specs.declared.token.Sign.TheVariants as signs
use Rattle.te_reader.specs.declared.part.Role.{Role}
use Rattle.te_reader.specs.declared.part.Role.TheVariants as roles
use Rattle.te_reader.specs.declared.part.Part.{Part}
use Rattle.te_reader.specs.declared.part.Part.TheVariants as parts
use Rattle.te_reader.specs.Heads.{word_number, sign_number, word_first, sign_first}
use Rattle.te_reader.proofs.HeadLemmas.{word_is, sign_is}
use Rattle.te_reader.specs.Tokens.{Token, word, name, inner, integer, sign}
use Rattle.te_reader.specs.Integers.{integer_value}
use Rattle.te_reader.specs.Spots.{Spot, Head, token, over, strange}
use Rattle.te_reader.specs.Forms.{Form, form, then_also, forms, forms_of_events, IsAmong, FitsRole, bound_event, place_of_it}
use Rattle.te_reader.specs.Runs.{script_form, threads_form, channels_form, statements_form, sync_form, syncs_form}
use Rattle.te_reader.specs.Runs.{event_form, parts_form, bars_form, expression_form, operand_form, further_form}
use Rattle.te_reader.specs.Runs.{behind_form, inside_form, test_form, alone_form, fits, is_word, is_sign, is_name}
use Rattle.te_reader.specs.Runs.{is_bound, is_integer, is_small, is_place, is_variable_first, is_channel_first, is_over}
use Rattle.te_reader.specs.Runs.{pick_plain, pick}

-- ---- tokens that stand alone

pub word_fits : (w : Word) (h : Head) → is_word w h ≡ true → h ≡ token (word w)
unfolding word_first
word_fits w (token (word v)) e = ap first_token (word_is w (word v ∷ []) [] (rw e refl)) where
  first_token : List Token → Head
  first_token [] = over
  first_token (t ∷ ts) = token t
word_fits w (token (name n)) e = absurd cc
word_fits w (token (inner n)) e = absurd cc
word_fits w (token (integer n)) e = absurd cc
word_fits w (token (sign g)) e = absurd cc
word_fits w over e = absurd cc
word_fits w (strange b) e = absurd cc

pub sign_fits : (g : Sign) (h : Head) → is_sign g h ≡ true → h ≡ token (sign g)
unfolding sign_first
sign_fits g (token (sign v)) e = ap first_token (sign_is g (sign v ∷ []) [] (rw e refl)) where
  first_token : List Token → Head
  first_token [] = over
  first_token (t ∷ ts) = token t
sign_fits g (token (name n)) e = absurd cc
sign_fits g (token (inner n)) e = absurd cc
sign_fits g (token (integer n)) e = absurd cc
sign_fits g (token (word w)) e = absurd cc
sign_fits g over e = absurd cc
sign_fits g (strange b) e = absurd cc

pub name_fits : (h : Head) → is_name h ≡ true → (n : List ℕ) × (h ≡ token (name n))
name_fits (token (name n)) e = (n, refl)
name_fits (token (word w)) e = absurd cc
name_fits (token (inner n)) e = absurd cc
name_fits (token (integer n)) e = absurd cc
name_fits (token (sign g)) e = absurd cc
name_fits over e = absurd cc
name_fits (strange b) e = absurd cc

bound_fits : (h : Head) → is_bound h ≡ true → ((n : List ℕ) × (h ≡ token (name n))) ⊎ ((n : List ℕ) × (h ≡ token (inner n)))
bound_fits (token (name n)) e = inl (n, refl)
bound_fits (token (inner n)) e = inr (n, refl)
bound_fits (token (word w)) e = absurd cc
bound_fits (token (integer n)) e = absurd cc
bound_fits (token (sign g)) e = absurd cc
bound_fits over e = absurd cc
bound_fits (strange b) e = absurd cc

pub integer_fits : (h : Head) → is_integer h ≡ true → (n : List ℕ) × (h ≡ token (integer n)) × Unit {0}
integer_fits (token (integer n)) e = (n, refl, tt)
integer_fits (token (word w)) e = absurd cc
integer_fits (token (name n)) e = absurd cc
integer_fits (token (inner n)) e = absurd cc
integer_fits (token (sign g)) e = absurd cc
integer_fits over e = absurd cc
integer_fits (strange b) e = absurd cc

small_is : (z : ℤ) → is_small z ≡ true → (d : ℕ) × (z ≡ pos d) × (d ≤ 3)
small_is (pos d) e = (d, refl, grind (arith, nat_tests))
small_is (negsuc n) e = absurd cc

pub place_fits : (h : Head) → is_place h ≡ true → (n : List ℕ) × (h ≡ token (integer n)) × ((d : ℕ) × (integer_value n ≡ pos d) × (d ≤ 3))
place_fits (token (integer n)) e = (n, refl, small_is (integer_value n) e)
place_fits (token (word w)) e = absurd cc
place_fits (token (name n)) e = absurd cc
place_fits (token (inner n)) e = absurd cc
place_fits (token (sign g)) e = absurd cc
place_fits over e = absurd cc
place_fits (strange b) e = absurd cc

channel_fits : (h : Head) (d : Bool) → is_channel_first h d ≡ true → ((n : List ℕ) × (h ≡ token (name n))) × (d ≡ false)
channel_fits (token (name n)) false e = ((n, refl), refl)
channel_fits (token (name n)) true e = absurd cc
channel_fits (token (word w)) d e = absurd cc
channel_fits (token (inner n)) d e = absurd cc
channel_fits (token (integer n)) d e = absurd cc
channel_fits (token (sign g)) d e = absurd cc
channel_fits over d e = absurd cc
channel_fits (strange b) d e = absurd cc

variable_fits : (h : Head) (d : Bool) → is_variable_first h d ≡ true → (((n : List ℕ) × (h ≡ token (name n))) × (d ≡ true)) ⊎ ((n : List ℕ) × (h ≡ token (inner n)))
variable_fits (token (name n)) d e = inl ((n, refl), e)
variable_fits (token (inner n)) d e = inr (n, refl)
variable_fits (token (word w)) d e = absurd cc
variable_fits (token (integer n)) d e = absurd cc
variable_fits (token (sign g)) d e = absurd cc
variable_fits over d e = absurd cc
variable_fits (strange b) d e = absurd cc

over_fits : (h : Head) → is_over h ≡ true → h ≡ over
over_fits over e = refl
over_fits (token (word w)) e = absurd cc
over_fits (token (name n)) e = absurd cc
over_fits (token (inner n)) e = absurd cc
over_fits (token (integer n)) e = absurd cc
over_fits (token (sign g)) e = absurd cc
over_fits (strange b) e = absurd cc

module _ (at : ℕ) where
  -- a form that was picked is one of these, and its role fits the token
  abbrev Good : List Form → Head → Bool → Option Form → Type 0
  Good all h d None = Unit {0}
  Good all h d (Some f) = IsAmong f all × FitsRole f.role (record { head = h; dotted = d; left = at })

  -- ---- by part

  threads_good : (h : Head) (d : Bool) → Good (forms parts.Threads) h d (threads_form h)
  threads_good (token (word words.Thread)) d = (inl refl, refl)
  threads_good over d = (inr (inl refl), refl)
  threads_good _ d = tt

  script_good : (h : Head) (d : Bool) → Good (forms parts.Script) h d (script_form h)
  script_good (token (word words.Channels)) d = (inl refl, refl)
  script_good (token (word words.Thread)) d = (inr (inl refl), refl)
  script_good over d = (inr (inr (inl refl)), refl)
  script_good _ d = tt

  channels_good : (h : Head) (d : Bool) → Good (forms parts.Channels) h d (channels_form h)
  channels_good (token (name n)) d = (inl refl, (n, refl))
  channels_good (token (sign signs.Semicolon)) d = (inr (inl refl), refl)
  channels_good _ d = tt

  statements_good : (h : Head) (d : Bool) → Good (forms parts.Statements) h d (statements_form h)
  statements_good (token (name n)) d = (inl refl, (n, refl))
  statements_good (token (word words.Emit)) d = (inr (inl refl), refl)
  statements_good (token (word words.Repeat)) d = (inr (inr (inl refl)), refl)
  statements_good (token (sign signs.CloseBrace)) d = (inr (inr (inr (inl refl))), refl)
  statements_good _ d = tt

  sync_good : (h : Head) (d : Bool) → Good (forms parts.Sync) h d (sync_form h)
  sync_good (token (name n)) d = (inl refl, (n, refl))
  sync_good _ d = tt

  syncs_good : (h : Head) (d : Bool) → Good (forms parts.Syncs) h d (syncs_form h)
  syncs_good (token (name n)) d = (inl refl, (n, refl))
  syncs_good (token (sign signs.CloseBrace)) d = (inr (inl refl), refl)
  syncs_good _ d = tt

  event_good : (h : Head) (d : Bool) → Good forms_of_events h d (event_form h)
  event_good (token (word words.Always)) d = (inl refl, refl)
  event_good (token (word words.Never)) d = (inr (inl refl), refl)
  event_good (token (word words.Throw)) d = (inr (inr (inl refl)), refl)
  event_good (token (word words.Send)) d = (inr (inr (inr (inl refl))), refl)
  event_good (token (word words.Recv)) d = (inr (inr (inr (inr (inl refl)))), refl)
  event_good (token (word words.Do)) d = (inr (inr (inr (inr (inr (inl refl))))), refl)
  event_good (token (word words.Choose)) d = (inr (inr (inr (inr (inr (inr (inl refl)))))), refl)
  event_good (token (word words.Fresh)) d = (inr (inr (inr (inr (inr (inr (inr (inl refl))))))), refl)
  event_good (token (word words.Try)) d = (inr (inr (inr (inr (inr (inr (inr (inr (inl refl)))))))), refl)
  event_good (token (word words.If)) d = (inr (inr (inr (inr (inr (inr (inr (inr (inr (inl refl))))))))), refl)
  event_good _ d = tt

  among_map : (g : Form → Form) (f : Form) (all : List Form) → IsAmong f all → IsAmong (g f) (map g all)
  among_map g f [] h = h
  among_map g f (x ∷ xs) (inl e) = inl (ap g e)
  among_map g f (x ∷ xs) (inr h) = inr (among_map g f xs h)

  -- the last event behind parts
  last_good : (h : Head) (d : Bool) (o : Option Form) → Good forms_of_events h d o → Good (forms parts.Parts) h d (option_map (then_also (parts.Only roles.Close)) o)
  last_good h d None g = tt
  last_good h d (Some f) g = (inr (among_map (then_also (parts.Only roles.Close)) f forms_of_events g.0), g.1)

  parts_good : (h : Head) (d : Bool) → Good (forms parts.Parts) h d (parts_form h)
  parts_good (token (name n)) d = (inl refl, inl (n, refl))
  parts_good (token (inner n)) d = (inl refl, inr (n, refl))
  parts_good (token (word w)) d = last_good (token (word w)) d (event_form (token (word w))) (event_good (token (word w)) d)
  parts_good (token (integer n)) d = tt
  parts_good (token (sign g)) d = tt
  parts_good over d = tt
  parts_good (strange b) d = tt

  bars_good : (h : Head) (d : Bool) → Good (forms parts.Bars) h d (bars_form h)
  bars_good (token (sign signs.Bar)) d = (inl refl, refl)
  bars_good (token (sign signs.CloseBrace)) d = (inr (inl refl), refl)
  bars_good _ d = tt

  expression_good : (h : Head) (d : Bool) → Good (forms parts.Expression) h d (expression_form h)
  expression_good (token (name n)) d = (inl refl, inl (n, refl))
  expression_good (token (inner n)) d = (inl refl, inr (n, refl))
  expression_good (token (sign signs.Open)) d = (inr (inl refl), refl)
  expression_good _ d = tt

  calculation_good : (h : Head) (d : Bool) → Good (forms parts.Calculation) h d (operand_form true (parts.Behind ∷ []) h d)
  calculation_good (token (integer n)) d = (inl refl, (n, refl, tt))
  calculation_good (token (name n)) true = (inr (inr (inl refl)), inl ((n, refl), refl))
  calculation_good (token (name n)) false = (inr (inl refl), ((n, refl), refl))
  calculation_good (token (inner n)) d = (inr (inr (inl refl)), inr (n, refl))
  calculation_good (token (word w)) d = tt
  calculation_good (token (sign g)) d = tt
  calculation_good over d = tt
  calculation_good (strange b) d = tt

  operand_good : (h : Head) (d : Bool) → Good (forms parts.Operand) h d (operand_form false [] h d)
  operand_good (token (integer n)) d = (inl refl, (n, refl, tt))
  operand_good (token (name n)) true = (inr (inr (inl refl)), inl ((n, refl), refl))
  operand_good (token (name n)) false = (inr (inl refl), ((n, refl), refl))
  operand_good (token (inner n)) d = (inr (inr (inl refl)), inr (n, refl))
  operand_good (token (word w)) d = tt
  operand_good (token (sign g)) d = tt
  operand_good over d = tt
  operand_good (strange b) d = tt

  inside_good : (h : Head) (d : Bool) → Good (forms parts.Inside) h d (inside_form h d)
  inside_good (token (sign signs.Close)) d = (inl refl, refl)
  inside_good (token (integer n)) d = (inr (inl refl), (n, refl, tt))
  inside_good (token (name n)) true = (inr (inr (inr (inl refl))), inl ((n, refl), refl))
  inside_good (token (name n)) false = (inr (inr (inl refl)), ((n, refl), refl))
  inside_good (token (inner n)) d = (inr (inr (inr (inl refl))), inr (n, refl))
  inside_good (token (word w)) d = tt
  inside_good (token (sign g)) d = tt
  inside_good over d = tt
  inside_good (strange b) d = tt

  further_good : (h : Head) (d : Bool) → Good (forms parts.Further) h d (further_form h)
  further_good (token (sign signs.Comma)) d = (inl refl, refl)
  further_good (token (sign signs.Close)) d = (inr (inl refl), refl)
  further_good _ d = tt

  behind_good : (h : Head) (d : Bool) → Good (forms parts.Behind) h d (behind_form h)
  behind_good (token (sign signs.Plus)) d = (inl refl, refl)
  behind_good (token (sign signs.Minus)) d = (inr (inl refl), refl)
  behind_good (token (sign signs.Star)) d = (inr (inr (inl refl)), refl)
  behind_good (token (sign signs.Comma)) d = (inr (inr (inr (inl refl))), refl)
  behind_good (token (sign signs.Close)) d = (inr (inr (inr (inr (inl refl)))), refl)
  behind_good _ d = tt

  test_good : (h : Head) (d : Bool) → Good (forms parts.Test) h d (test_form h)
  test_good (token (sign signs.Equal)) d = (inl refl, refl)
  test_good (token (sign signs.Less)) d = (inr (inl refl), refl)
  test_good _ d = tt

  fits_good : (r : Role) (h : Head) (d : Bool) → fits r h d ≡ true → FitsRole r (record { head = h; dotted = d; left = at })
  fits_good (roles.Word w) h d e = word_fits w h e
  fits_good (roles.Sign g) h d e = sign_fits g h e
  fits_good roles.ChannelName h d e = name_fits h e
  fits_good roles.ThreadWord h d e = word_fits words.Thread h e
  fits_good roles.ThreadName h d e = name_fits h e
  fits_good roles.Register h d e = name_fits h e
  fits_good roles.EmitWord h d e = word_fits words.Emit h e
  fits_good roles.RepeatWord h d e = word_fits words.Repeat h e
  fits_good roles.Times h d e = integer_fits h e
  fits_good roles.SyncWord h d e = word_fits words.Sync h e
  fits_good roles.SyncEnd h d e = sign_fits signs.Semicolon h e
  fits_good (roles.Leaf w) h d e = word_fits w h e
  fits_good roles.Fresh h d e = word_fits words.Fresh h e
  fits_good (roles.Chain w) h d e = word_fits w h e
  fits_good (roles.Branch w) h d e = word_fits w h e
  fits_good roles.OpenChain h d e = sign_fits signs.OpenBrace h e
  fits_good roles.OpenBranch h d e = sign_fits signs.OpenBrace h e
  fits_good roles.Close h d e = sign_fits signs.CloseBrace h e
  fits_good roles.Bar h d e = sign_fits signs.Bar h e
  fits_good roles.PartName h d e = bound_fits h e
  fits_good roles.PartEnd h d e = sign_fits signs.Semicolon h e
  fits_good roles.CatchName h d e = bound_fits h e
  fits_good roles.Whole h d e = bound_fits h e
  fits_good (roles.Integer first) h d e = integer_fits h e
  fits_good (roles.Channel first) h d e = channel_fits h d e
  fits_good (roles.Variable first) h d e = variable_fits h d e
  fits_good roles.Place h d e = place_fits h e
  fits_good roles.TupleEnd h d e = sign_fits signs.Close h e
  fits_good roles.End h d e = over_fits h e

  alone_good : (r : Role) (h : Head) (d b : Bool) → fits r h d ≡ b → Good (forms (parts.Only r)) h d (alone_form r b)
  alone_good r h d true e = (inl refl, fits_good r h d e)
  alone_good r h d false e = tt

  pick_good : (p : Part) (h : Head) (d : Bool) → Good (forms p) h d (pick p h d)
  unfolding pick pick_plain
  pick_good parts.Script h d = script_good h d
  pick_good parts.Channels h d = channels_good h d
  pick_good parts.Threads h d = threads_good h d
  pick_good parts.Statements h d = statements_good h d
  pick_good parts.Sync h d = sync_good h d
  pick_good parts.Syncs h d = syncs_good h d
  pick_good parts.Event h d = event_good h d
  pick_good parts.Parts h d = parts_good h d
  pick_good parts.Bars h d = bars_good h d
  pick_good parts.Expression h d = expression_good h d
  pick_good parts.Inside h d = inside_good h d
  pick_good parts.Calculation h d = calculation_good h d
  pick_good parts.Behind h d = behind_good h d
  pick_good parts.Further h d = further_good h d
  pick_good parts.Operand h d = operand_good h d
  pick_good parts.Test h d = test_good h d
  pick_good (parts.Only r) h d = alone_good r h d (fits r h d) refl

-- what is picked has a form of the part, which fits
pub picked_fits : (p : Part) (s : Spot) (f : Form) → pick p s.head s.dotted ≡ Some f → IsAmong f (forms p) × FitsRole f.role s
picked_fits p s f e = subst (λ (o : Option Form). Good s.left (forms p) s.head s.dotted o) e (pick_good s.left p s.head s.dotted)

-- ---- the other way round: a form of a part that fits is the one that is picked

word_true : (w : Word) (h : Head) → h ≡ token (word w) → is_word w h ≡ true
word_true w h e = rw e (eq-eqb (word_number w) (word_number w) refl)

sign_true : (g : Sign) (h : Head) → h ≡ token (sign g) → is_sign g h ≡ true
sign_true g h e = rw e (eq-eqb (sign_number g) (sign_number g) refl)

bound_true : (s : Spot) → ((n : List ℕ) × (s.head ≡ token (name n))) ⊎ ((n : List ℕ) × (s.head ≡ token (inner n))) → is_bound s.head ≡ true
bound_true s (inl h) = rw h.1 refl
bound_true s (inr h) = rw h.1 refl

variable_true : (s : Spot) → (((n : List ℕ) × (s.head ≡ token (name n))) × (s.dotted ≡ true)) ⊎ ((n : List ℕ) × (s.head ≡ token (inner n))) → is_variable_first s.head s.dotted ≡ true
variable_true s (inl h) = rw h.0.1 h.1
variable_true s (inr h) = rw h.1 refl

pub small_true : (z : ℤ) (d : ℕ) → z ≡ pos d → d ≤ 3 → is_small z ≡ true
small_true z d e h = rw e (grind (arith, nat_tests))

fits_true : (r : Role) (s : Spot) → FitsRole r s → fits r s.head s.dotted ≡ true
fits_true (roles.Word w) s h = word_true w s.head h
fits_true (roles.Sign g) s h = sign_true g s.head h
fits_true roles.ChannelName s h = rw h.1 refl
fits_true roles.ThreadWord s h = word_true words.Thread s.head h
fits_true roles.ThreadName s h = rw h.1 refl
fits_true roles.Register s h = rw h.1 refl
fits_true roles.EmitWord s h = word_true words.Emit s.head h
fits_true roles.RepeatWord s h = word_true words.Repeat s.head h
fits_true roles.Times s h = rw h.1 refl
fits_true roles.SyncWord s h = word_true words.Sync s.head h
fits_true roles.SyncEnd s h = sign_true signs.Semicolon s.head h
fits_true (roles.Leaf w) s h = word_true w s.head h
fits_true roles.Fresh s h = word_true words.Fresh s.head h
fits_true (roles.Chain w) s h = word_true w s.head h
fits_true (roles.Branch w) s h = word_true w s.head h
fits_true roles.OpenChain s h = sign_true signs.OpenBrace s.head h
fits_true roles.OpenBranch s h = sign_true signs.OpenBrace s.head h
fits_true roles.Close s h = sign_true signs.CloseBrace s.head h
fits_true roles.Bar s h = sign_true signs.Bar s.head h
fits_true roles.PartName s h = bound_true s h
fits_true roles.PartEnd s h = sign_true signs.Semicolon s.head h
fits_true roles.CatchName s h = bound_true s h
fits_true roles.Whole s h = bound_true s h
fits_true (roles.Integer first) s h = rw h.1 refl
fits_true (roles.Channel first) s h = rw (h.0.1, h.1) refl
fits_true (roles.Variable first) s h = variable_true s h
fits_true roles.Place s h = rw h.1 (small_true _ h.2.0 h.2.1 h.2.2)
fits_true roles.TupleEnd s h = sign_true signs.Close s.head h
fits_true roles.End s h = rw h refl

-- the form that stands first is picked where it fits
abbrev Picks : Part → Spot → Form → Type 0
Picks p s f = FitsRole f.role s → pick p s.head s.dotted ≡ Some f

first : (p : Part) (s : Spot) (f g : Form) → Picks p s g → f ≡ g → Picks p s f
first p s f g picks e = subst (λ (x : Form). Picks p s x) (sym e) picks

-- a table whose forms are all picked where they fit
abbrev AllPicked : Part → Spot → List Form → Type 0
AllPicked p s [] = Unit {0}
AllPicked p s (g ∷ gs) = Picks p s g × AllPicked p s gs

among_picked : (p : Part) (s : Spot) (f : Form) (all : List Form) → AllPicked p s all → IsAmong f all → Picks p s f
among_picked p s f [] all h = absurd h
among_picked p s f (g ∷ gs) all (inl e) = first p s f g all.0 e
among_picked p s f (g ∷ gs) all (inr h) = among_picked p s f gs all.1 h

module _ (s : Spot) where
  threads_picked : AllPicked parts.Threads s (forms parts.Threads)
  unfolding pick pick_plain
  threads_picked = (λ h. rw h refl, (λ h. rw h refl, tt))

  script_picked : AllPicked parts.Script s (forms parts.Script)
  unfolding pick pick_plain
  script_picked = (λ h. rw h refl, (λ h. rw h refl, (λ h. rw h refl, tt)))

  channels_picked : AllPicked parts.Channels s (forms parts.Channels)
  unfolding pick pick_plain
  channels_picked = (λ h. rw h.1 refl, (λ h. rw h refl, tt))

  statements_picked : AllPicked parts.Statements s (forms parts.Statements)
  unfolding pick pick_plain
  statements_picked = (λ h. rw h.1 refl, (λ h. rw h refl, (λ h. rw h refl, (λ h. rw h refl, tt))))

  sync_picked : AllPicked parts.Sync s (forms parts.Sync)
  unfolding pick pick_plain
  sync_picked = (λ h. rw h.1 refl, tt)

  syncs_picked : AllPicked parts.Syncs s (forms parts.Syncs)
  unfolding pick pick_plain
  syncs_picked = (λ h. rw h.1 refl, (λ h. rw h refl, tt))

  event_picked : AllPicked parts.Event s (forms parts.Event)
  unfolding pick pick_plain
  event_picked = (λ h. rw h refl, (λ h. rw h refl, (λ h. rw h refl, (λ h. rw h refl, (λ h. rw h refl, (λ h. rw h refl, (λ h. rw h refl, (λ h. rw h refl, (λ h. rw h refl, (λ h. rw h refl, tt))))))))))

  part_named : ((n : List ℕ) × (s.head ≡ token (name n))) ⊎ ((n : List ℕ) × (s.head ≡ token (inner n))) → parts_form s.head ≡ Some (form roles.PartName (bound_event (parts.Parts ∷ [])))
  part_named (inl h) = rw h.1 refl
  part_named (inr h) = rw h.1 refl

  parts_picked : AllPicked parts.Parts s (forms parts.Parts)
  unfolding pick pick_plain
  parts_picked = (
    part_named,
    (
      λ h. rw h refl,
      (
        λ h. rw h refl,
        (
          λ h. rw h refl,
          (
            λ h. rw h refl,
            (
              λ h. rw h refl,
              (
                λ h. rw h refl,
                (λ h. rw h refl, (λ h. rw h refl, (λ h. rw h refl, (λ h. rw h refl, tt)))),
              ),
            ),
          ),
        ),
      ),
    ),
  )

  bars_picked : AllPicked parts.Bars s (forms parts.Bars)
  unfolding pick pick_plain
  bars_picked = (λ h. rw h refl, (λ h. rw h refl, tt))

  whole_named : ((n : List ℕ) × (s.head ≡ token (name n))) ⊎ ((n : List ℕ) × (s.head ≡ token (inner n))) → expression_form s.head ≡ Some (form roles.Whole [])
  whole_named (inl h) = rw h.1 refl
  whole_named (inr h) = rw h.1 refl

  expression_picked : AllPicked parts.Expression s (forms parts.Expression)
  unfolding pick pick_plain
  expression_picked = (whole_named, (λ h. rw h refl, tt))

  operand_named : (first : Bool) (more : List Part) → (((n : List ℕ) × (s.head ≡ token (name n))) × (s.dotted ≡ true)) ⊎ ((n : List ℕ) × (s.head ≡ token (inner n)))
      → operand_form first more s.head s.dotted ≡ Some (form (roles.Variable first) (place_of_it more))
  operand_named first more (inl h) = rw (h.0.1, h.1) refl
  operand_named first more (inr h) = rw h.1 refl

  inside_named : (((n : List ℕ) × (s.head ≡ token (name n))) × (s.dotted ≡ true)) ⊎ ((n : List ℕ) × (s.head ≡ token (inner n)))
      → inside_form s.head s.dotted ≡ Some (form (roles.Variable true) (place_of_it (parts.Behind ∷ [])))
  inside_named (inl h) = rw (h.0.1, h.1) refl
  inside_named (inr h) = rw h.1 refl

  inside_picked : AllPicked parts.Inside s (forms parts.Inside)
  unfolding pick pick_plain
  inside_picked = (λ h. rw h refl, (λ h. rw h.1 refl, (λ h. rw (h.0.1, h.1) refl, (inside_named, tt))))

  calculation_picked : AllPicked parts.Calculation s (forms parts.Calculation)
  unfolding pick pick_plain
  calculation_picked = (λ h. rw h.1 refl, (λ h. rw (h.0.1, h.1) refl, (operand_named true (parts.Behind ∷ []), tt)))

  behind_picked : AllPicked parts.Behind s (forms parts.Behind)
  unfolding pick pick_plain
  behind_picked = (λ h. rw h refl, (λ h. rw h refl, (λ h. rw h refl, (λ h. rw h refl, (λ h. rw h refl, tt)))))

  further_picked : AllPicked parts.Further s (forms parts.Further)
  unfolding pick pick_plain
  further_picked = (λ h. rw h refl, (λ h. rw h refl, tt))

  operand_picked : AllPicked parts.Operand s (forms parts.Operand)
  unfolding pick pick_plain
  operand_picked = (λ h. rw h.1 refl, (λ h. rw (h.0.1, h.1) refl, (operand_named false [], tt)))

  test_picked : AllPicked parts.Test s (forms parts.Test)
  unfolding pick pick_plain
  test_picked = (λ h. rw h refl, (λ h. rw h refl, tt))

  only_picked : (r : Role) → AllPicked (parts.Only r) s (forms (parts.Only r))
  unfolding pick pick_plain
  only_picked r = (λ h. rw (fits_true r s h) refl, tt)

all_picked : (p : Part) (s : Spot) → AllPicked p s (forms p)
all_picked parts.Script s = script_picked s
all_picked parts.Channels s = channels_picked s
all_picked parts.Threads s = threads_picked s
all_picked parts.Statements s = statements_picked s
all_picked parts.Sync s = sync_picked s
all_picked parts.Syncs s = syncs_picked s
all_picked parts.Event s = event_picked s
all_picked parts.Parts s = parts_picked s
all_picked parts.Bars s = bars_picked s
all_picked parts.Expression s = expression_picked s
all_picked parts.Inside s = inside_picked s
all_picked parts.Calculation s = calculation_picked s
all_picked parts.Behind s = behind_picked s
all_picked parts.Further s = further_picked s
all_picked parts.Operand s = operand_picked s
all_picked parts.Test s = test_picked s
all_picked (parts.Only r) s = only_picked s r

pub fitting_is_picked : (p : Part) (s : Spot) (f : Form) → IsAmong f (forms p) → FitsRole f.role s → pick p s.head s.dotted ≡ Some f
fitting_is_picked p s f h = among_picked p s f (forms p) (all_picked p s) h
