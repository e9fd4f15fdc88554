-- A text has no fault exactly where it is the text of a script.
use Rattle.std.proofs.Common.{◌≡◌, ℕ, zero, suc, Bool, true, false, List, [], ◌∷◌, ◌++◌, length, refl, sym, ◌∙◌, ap, arith}
use Rattle.std.specs.Prelude.{Option, Some, None, nat_le}
use Rattle.std.proofs.lemmas.Bool.Decides.{nat_tests}
use Rattle.te_script.specs.Scripts.{Program}
use Rattle.te_reader.specs.declared.cause.Cause.{Cause}
use Rattle.te_reader.specs.declared.part.Role.{Role}
use Rattle.te_reader.specs.declared.part.Role.TheVariants as roles
use Rattle.te_reader.specs.declared.part.Part.{Part}
use Rattle.te_reader.specs.declared.part.Part.TheVariants as parts
use Rattle.te_reader.specs.Tokens.{Between, in_blanks}
use Rattle.te_reader.specs.Lexed.{Piece, gap, found, other, piece_at, place_after, bytes_after, before, lexed_behind, lexed}
use Rattle.te_reader.specs.Text.{Text}
use Rattle.te_reader.specs.Spots.{Spot, strange, is_dot, begins_with_dot, spot_before, spots_behind, spots}
use Rattle.te_reader.specs.Forms.{Form}
use Rattle.te_reader.specs.Rules.{Context, nothing_before, rules, first_broken, context_after}
use Rattle.te_reader.specs.Runs.{Found, pick, pick_plain, fits, next_found, broken_or, run, found_if, fault_of}
use Rattle.te_reader.proofs.SpelledIsLexed.{spelled_is_lexed}
use Rattle.te_reader.proofs.LexedIsSpelled.{lexed_is_spelled}
use Rattle.te_reader.proofs.Passing.{spots_of}
use Rattle.te_reader.proofs.ScriptPasses.{program_goes}
use Rattle.te_reader.proofs.PassedExpressions.{unbroken}
use Rattle.te_reader.proofs.PassedScripts.{program_passed}

-- ---- spots that differ in their places alone

abbrev Alike : List Spot → List Spot → Type 0
Alike [] [] = Unit {0}
Alike [] (t ∷ ts) = ⊥
Alike (s ∷ ss) [] = ⊥
Alike (s ∷ ss) (t ∷ ts) = (s.head ≡ t.head) × (s.dotted ≡ t.dotted) × Alike ss ts

alike_back : (ss ts : List Spot) → Alike ss ts → Alike ts ss
alike_back [] [] h = tt
alike_back [] (t ∷ ts) h = absurd h
alike_back (s ∷ ss) [] h = absurd h
alike_back (s ∷ ss) (t ∷ ts) h = (sym h.0, sym h.1, alike_back ss ts h.2)

alike_dot : (ss ts : List Spot) → Alike ss ts → begins_with_dot ss ≡ begins_with_dot ts
alike_dot [] [] h = refl
alike_dot [] (t ∷ ts) h = absurd h
alike_dot (s ∷ ss) [] h = absurd h
alike_dot (s ∷ ss) (t ∷ ts) h = ap is_dot h.0

alike_passes : (ss ts : List Spot) (wanted : List Part) (c : Context) → Alike ss ts → run wanted c ss ≡ None → run wanted c ts ≡ None
unfolding run
alike_passes [] [] [] c a h = refl
alike_passes [] [] (p ∷ more) c a h = refl
alike_passes [] (t ∷ ts) wanted c a h = absurd a
alike_passes (s ∷ ss) [] wanted c a h = absurd a
alike_passes (s ∷ ss) (t ∷ ts) [] c a h = absurd cc
alike_passes (s ∷ ss) (t ∷ ts) (p ∷ more) c a h = rw (← a.0, ← a.1) (by (λ w d k. alike_passes ss ts w d a.2 k) (pick p s.head s.dotted) h) where
  broken : ((w : List Part) (d : Context) → run w d ss ≡ None → run w d ts ≡ None) → (f : Form) (o : Option Cause)
      → broken_or (run (f.wanted ++ more) (context_after f.role c s.head) ss) s.left o ≡ None
      → broken_or (run (f.wanted ++ more) (context_after f.role c s.head) ts) t.left o ≡ None
  broken later f None e = later (f.wanted ++ more) (context_after f.role c s.head) e
  broken later f (Some k) e = absurd cc

  by : ((w : List Part) (d : Context) → run w d ss ≡ None → run w d ts ≡ None) → (o : Option Form)
      → next_found (λ w d. run w d ss) more c s o ≡ None → next_found (λ w d. run w d ts) more c
      (record t { head = s.head; dotted = s.dotted }) o ≡ None
  by later None e = absurd cc
  by later (Some f) e = broken later f (first_broken (rules f.role c s.head)) e

-- the spots of a text are those of its tokens
spots_alike : (place : Between) (k : ℕ) (text : List ℕ) → (lexed_behind place k text).whole ≡ true → Alike (spots_behind place k text) (spots_of (lexed_behind place k text).tokens)
unfolding lexed_behind spots_behind
spots_alike place zero [] e = (refl, refl, tt)
spots_alike place (suc k) [] e = (refl, refl, tt)
spots_alike place (suc k) (b ∷ bs) e = spots_alike place k bs e
spots_alike place zero (b ∷ bs) e = by (piece_at place b bs) (spots_alike (place_after (piece_at place b bs)) (bytes_after (piece_at place b bs)) bs) e where
  by : (p : Piece) → ((lexed_behind (place_after p) (bytes_after p) bs).whole ≡ true
      → Alike (spots_behind (place_after p) (bytes_after p) bs)
      (spots_of (lexed_behind (place_after p) (bytes_after p) bs).tokens))
      → (before p (lexed_behind (place_after p) (bytes_after p) bs)).whole ≡ true
      → Alike (spot_before p b (suc (length bs)) (spots_behind (place_after p) (bytes_after p) bs)) (spots_of (before p (lexed_behind (place_after p) (bytes_after p) bs)).tokens)
  by (gap next) later e = later e
  by (found t) later e = let a = later e in (refl, alike_dot _ _ a, a)
  by other later e = absurd cc

-- ---- a byte that begins no token

none_fits : (r : Role) (b : ℕ) (d : Bool) → fits r (strange b) d ≡ false
none_fits (roles.Word w) b d = refl
none_fits (roles.Sign g) b d = refl
none_fits roles.ChannelName b d = refl
none_fits roles.ThreadWord b d = refl
none_fits roles.ThreadName b d = refl
none_fits roles.Register b d = refl
none_fits roles.EmitWord b d = refl
none_fits roles.RepeatWord b d = refl
none_fits roles.Times b d = refl
none_fits roles.SyncWord b d = refl
none_fits roles.SyncEnd b d = refl
none_fits (roles.Leaf w) b d = refl
none_fits roles.Fresh b d = refl
none_fits (roles.Chain w) b d = refl
none_fits (roles.Branch w) b d = refl
none_fits roles.OpenChain b d = refl
none_fits roles.OpenBranch b d = refl
none_fits roles.Close b d = refl
none_fits roles.Bar b d = refl
none_fits roles.PartName b d = refl
none_fits roles.PartEnd b d = refl
none_fits roles.CatchName b d = refl
none_fits roles.Whole b d = refl
none_fits (roles.Integer first) b d = refl
none_fits (roles.Channel first) b d = refl
none_fits (roles.Variable first) b d = refl
none_fits roles.Place b d = refl
none_fits roles.TupleEnd b d = refl
none_fits roles.End b d = refl

none_picked : (p : Part) (b : ℕ) (d : Bool) → pick p (strange b) d ≡ None
unfolding pick pick_plain
none_picked parts.Script b d = refl
none_picked parts.Channels b d = refl
none_picked parts.Threads b d = refl
none_picked parts.Statements b d = refl
none_picked parts.Sync b d = refl
none_picked parts.Syncs b d = refl
none_picked parts.Event b d = refl
none_picked parts.Parts b d = refl
none_picked parts.Bars b d = refl
none_picked parts.Expression b d = refl
none_picked parts.Inside b d = refl
none_picked parts.Calculation b d = refl
none_picked parts.Behind b d = refl
none_picked parts.Further b d = refl
none_picked parts.Operand b d = refl
none_picked parts.Test b d = refl
none_picked (parts.Only r) b d = rw (none_fits r b d) refl

-- a run never passes such a byte
stops_there : (wanted : List Part) (c : Context) (s : Spot) (b : ℕ) → s.head ≡ strange b → run wanted c (s ∷ []) ≡ None → ⊥
unfolding run
stops_there [] c s b e h = cc
stops_there (p ∷ more) c s b e h = by (pick p s.head s.dotted) (ap (λ x. pick p x s.dotted) e ∙ none_picked p b s.dotted) h where
  by : (o : Option Form) → o ≡ None → next_found (λ w d. run w d []) more c s o ≡ None → ⊥
  by None e h = cc
  by (Some f) e h = cc

goes_one : (wanted : List Part) (c : Context) (s : Spot) (ss : List Spot) → run wanted c (s ∷ ss) ≡ None → (w : List Part) × (d : Context) × (run w d ss ≡ None)
unfolding run
goes_one [] c s ss h = absurd cc
goes_one (p ∷ more) c s ss h = by (pick p s.head s.dotted) h where
  by : (o : Option Form) → next_found (λ w d. run w d ss) more c s o ≡ None → (w : List Part) × (d : Context) × (run w d ss ≡ None)
  by None e = absurd cc
  by (Some f) e = let u = unbroken (run (f.wanted ++ more) (context_after f.role c s.head) ss) s.left (first_broken (rules f.role c s.head)) e in (f.wanted ++ more, context_after f.role c s.head, u.1)

never_passed : (place : Between) (k : ℕ) (text : List ℕ) (wanted : List Part) (c : Context) → (lexed_behind place k text).whole ≡ false → run wanted c (spots_behind place k text) ≡ None → ⊥
unfolding lexed_behind spots_behind
never_passed place zero [] wanted c e h = cc
never_passed place (suc k) [] wanted c e h = cc
never_passed place (suc k) (b ∷ bs) wanted c e h = never_passed place k bs wanted c e h
never_passed place zero (b ∷ bs) wanted c e h = by (piece_at place b bs) (λ w d. never_passed (place_after (piece_at place b bs)) (bytes_after (piece_at place b bs)) bs w d) e h where
  by : (p : Piece) → ((w : List Part) (d : Context) → (lexed_behind (place_after p) (bytes_after p) bs).whole ≡ false → run w d (spots_behind (place_after p) (bytes_after p) bs) ≡ None → ⊥)
      → (before p (lexed_behind (place_after p) (bytes_after p) bs)).whole ≡ false → run wanted c (spot_before p b (suc (length bs)) (spots_behind (place_after p) (bytes_after p) bs)) ≡ None → ⊥
  by (gap next) later e h = later wanted c e h
  by (found t) later e h = let g = goes_one wanted c _ _ h in later g.0 g.1 e g.2
  by other later e h = stops_there wanted c _ b refl h

-- ---- texts

not_long : (b : Bool) (n : ℕ) (o : Option Found) → found_if b n o ≡ None → (b ≡ true) × (o ≡ None)
not_long true n o e = (refl, e)
not_long false n o e = absurd cc

-- a program of which the bytes are a text
pub record IsSomeText (bytes : List ℕ) : Type 0 where
  pub program : Program
  pub text : Text bytes program

pub no_fault_is_text : (bytes : List ℕ) → fault_of bytes ≡ None → IsSomeText bytes
unfolding fault_of
no_fault_is_text bytes e =
    let n = not_long (nat_le (length bytes) 1048576) (length bytes) (run (parts.Script ∷ []) nothing_before (spots bytes)) e in
    by n.0 n.1 (lexed bytes).whole refl where
      by : nat_le (length bytes) 1048576 ≡ true → run (parts.Script ∷ []) nothing_before (spots bytes) ≡ None → (b : Bool) → (lexed bytes).whole ≡ b → IsSomeText bytes
      by small h false w = absurd (never_passed in_blanks 0 bytes (parts.Script ∷ []) nothing_before w h)
      by small h true w =
          let g = program_passed (lexed bytes).tokens (alike_passes (spots bytes) (spots_of (lexed bytes).tokens) (parts.Script ∷ []) nothing_before (spots_alike in_blanks 0 bytes w) h) in
          record {
            program = g.program;
            text = record {
              size = grind (arith, nat_tests, small);
              tokens =
                  (lexed bytes).tokens;
              spelled = lexed_is_spelled bytes w;
              grammar = g.spelled;
              kept = g.kept;
            };
          }

pub text_has_no_fault : (bytes : List ℕ) (p : Program) → Text bytes p → fault_of bytes ≡ None
unfolding fault_of
text_has_no_fault bytes p text =
    let lexed_as = spelled_is_lexed text.tokens bytes text.spelled in
    let whole : (lexed bytes).whole ≡ true = ap (λ s. s.whole) lexed_as in
    let same : (lexed bytes).tokens ≡ text.tokens = ap (λ s. s.tokens) lexed_as in
    let small : nat_le (length bytes) 1048576 ≡ true = grind (arith, nat_tests, text.size) in
    let goes : run (parts.Script ∷ []) nothing_before (spots_of (lexed bytes).tokens) ≡ None =
    ap (λ ts. run (parts.Script ∷ []) nothing_before (spots_of ts)) same
    ∙ program_goes p text.kept text.tokens text.grammar in
    let passes = alike_passes (spots_of (lexed bytes).tokens) (spots bytes) (parts.Script ∷ []) nothing_before
    (alike_back (spots bytes) (spots_of (lexed bytes).tokens) (spots_alike in_blanks 0 bytes whole)) goes in
    rw (small, passes) refl
