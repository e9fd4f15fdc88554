-- A list of parked events has at most as many path names as its nodes allow, and as many group names.
use Rattle.std.proofs.Common.{◌≡◌, ◌≢◌, ◌⊎◌, ◌≤◌, ◌<◌, inl, inr, ℕ, zero, suc, ◌+◌, ◌*◌, ◌^◌, List, [], ◌∷◌, ◌++◌, map}
use Rattle.std.proofs.Common.{length, replicate, Bool, true, false, cond, Option, Some, None, refl, ap, ap₂, sym, ◌∙◌}
use Rattle.std.proofs.Common.{subst, arith, nat_eq}
use Rattle.std.specs.List.{AllByRecursion}
use Rattle.std.proofs.lemmas.Nat.{pow-add}
use Rattle.te_terms.specs.Terms.{Term}
use Rattle.te_terms.specs.Measures.{choice_count, send_count, receive_count}
use Rattle.te_terms.specs.Steps.{Member}
use Rattle.te_terms.specs.Joint.{Label, IsGroup, member_of}
use Rattle.te_terms.specs.Settling.{settled}
use Rattle.te_trail.specs.Paths.{Path, planted, thread_of, own_labels}
use Rattle.te_trail.specs.States.{path_state, HasState}
use Rattle.te_trail.specs.Views.{Chain, view_of, Name, path_name_of, IsPathName, IsGroupName}
use Rattle.te_trail.proofs.MembersMove.{found_thread}
use Rattle.te_search.specs.Bounds.{NoNameTwice, over_all, views_most, paths_most, enough_for}
use Rattle.te_search.proofs.EveryChainCovered.{Full, Covers, covers}
use Rattle.te_search.proofs.Trying.{state_member}
use Rattle.te_search.proofs.NodesRunOut.{moves_fit}
use Rattle.te_search.proofs.DigitsTell.{letters, Target, targets, Standing, AreAlike, digits_tell}
use Rattle.te_search.proofs.DigitsCounted.{product, Fit, number, number_low, number_tells, fit_both, fit_length}
use Rattle.te_search.proofs.DigitsCounted.{product_both, product_alike, both_same, padded, padded_fits, padded_tells}
use Rattle.te_search.proofs.DigitsCounted.{AreNumbered, NoneAlike, counted}
use Rattle.te_search.proofs.NamesCounted.{all_found, all_at, place_in, place_low, place_tells, IsTarget, target_code, target_low, target_tells, letters_weigh, targets_weigh, are_targets}
use Rattle.te_terms.proofs.Lists.{all_with}

-- ---- a chain's paths

abbrev Any : Path → Type 0
Any p = Unit {0}

any_is_full : (g : List Member) → Full g Any
any_is_full g = record { plants = λ t e at. tt; branches = λ p l e u m s c. tt; joins = λ p q a b r m n ag s t e. (tt, tt) }

standing : (g : List Member) (word : List Label) (chain : Chain g word) → Covers g Any chain.end word
standing g word chain = subst (Covers g Any chain.end) chain.labels_are (covers g Any (any_is_full g) chain.actions chain.end chain.reaches)

abbrev as_standing : (g h : List Member) (word : List Label) → Covers g Any h word → Standing g
as_standing g h word c = record { path = c.path; threads = c.threads; sounds = c.sounds; agrees = c.agrees; kept = c.kept }

-- ---- the digits of a name

abbrev letter_code : Bool → ℕ
letter_code true = 0
letter_code false = 1

letter_low : (l : Bool) → letter_code l < 2
letter_low true = omega arith
letter_low false = omega arith

letter_tells : (k l : Bool) → letter_code k ≡ letter_code l → k ≡ l
letter_tells true true e = refl
letter_tells false false e = refl
letter_tells true false e = absurd (omega (arith, e))
letter_tells false true e = absurd (omega (arith, e))

-- the members' lists one after the other
abbrev spread : (Member → List ℕ) → List Member → List ℕ
spread f [] = []
spread f (m ∷ ms) = f m ++ spread f ms

spread_fits : (f h : Member → List ℕ) (g : List Member) → AllByRecursion (λ m. Fit (f m) (h m)) g → Fit (spread f g) (spread h g)
spread_fits f h [] a = tt
spread_fits f h (m ∷ ms) a = fit_both (f m) (h m) (spread f ms) (spread h ms) a.0 (spread_fits f h ms a.1)

spread_tells : (f h k : Member → List ℕ) (g : List Member) → AllByRecursion (λ m. Fit (f m) (h m)) g → AllByRecursion (λ m. Fit (f m) (k m)) g → spread h g ≡ spread k g
    → AllByRecursion (λ m. h m ≡ k m) g
spread_tells f h k [] a b e = tt
spread_tells f h k (m ∷ ms) a b e =
    let both : (h m ≡ k m) × (spread h ms ≡ spread k ms) = both_same (h m) (k m) (spread h ms) (spread k ms) (fit_length (f m) (h m) a.0 ∙ sym (fit_length (f m) (k m) b.0)) e in
    (both.0, spread_tells f h k ms a.1 b.1 both.1)

spread_product : (count : Term → ℕ) (b : ℕ) (g : List Member) → product (spread (λ m. replicate (count m.term) b) g) ≡ b ^ over_all count g
spread_product count b [] = product_alike 0 b
spread_product count b (m ∷ ms) =
    product_both (replicate (count m.term) b) (spread (λ m. replicate (count m.term) b) ms)
    ∙ ap₂ (λ x y. x * y) (product_alike (count m.term) b) (spread_product count b ms) ∙ sym (pow-add b (count m.term) (over_all count ms))

abbrev letter_bases : Member → List ℕ
letter_bases m = replicate (choice_count m.term) 3

abbrev target_bases : List Member → Member → List ℕ
target_bases g m = replicate (send_count m.term) (suc (over_all receive_count g))

abbrev bases : List Member → List ℕ
bases g = length g ∷ (spread letter_bases g ++ spread (target_bases g) g)

bases_product : (g : List Member) → product (bases g) ≡ paths_most g
bases_product g =
    let one : suc (over_all receive_count g) ≡ over_all receive_count g + 1 = omega arith in
    ap (λ n. length g * n) (product_both (spread letter_bases g) (spread (target_bases g) g)
    ∙ ap₂ (λ x y. x * y) (spread_product choice_count 3 g) (spread_product send_count (suc (over_all receive_count g)) g ∙ ap (λ n. n ^ over_all send_count g) one))

abbrev letter_digits : (ℕ → Path) → Member → List ℕ
letter_digits path m = padded letter_code (choice_count m.term) (letters (path m.thread))

abbrev target_digits : List Member → (ℕ → Path) → Member → List ℕ
target_digits g path m = padded (target_code g) (send_count m.term) (targets (path m.thread))

abbrev digits : List Member → ℕ → (ℕ → Path) → List ℕ
digits g t path = place_in g t ∷ (spread (letter_digits path) g ++ spread (target_digits g path) g)

-- ---- they are digits of these bases

all_letters : (xs : List Bool) → AllByRecursion (λ l. letter_code l < 2) xs
all_letters [] = tt
all_letters (x ∷ xs) = (letter_low x, all_letters xs)

-- a path of a member has no more choices and sends than its event
record StaysShort (g : List Member) (p : Path) (m : Member) : Type 0 where
  pub choices : length (letters p) ≤ choice_count m.term
  pub sends : length (targets p) ≤ send_count m.term
  pub targets_are : AllByRecursion (IsTarget g) (targets p)

short_planted : (g : List Member) (t : ℕ) (m : Member) → StaysShort g (planted t) m
short_planted g t m = record { choices = (let z : 0 ≤ choice_count m.term = omega arith in z); sends = (let z : 0 ≤ send_count m.term = omega arith in z); targets_are = tt }

stays_short : (g : List Member) (c : Standing g) (m : Member) → member_of m.thread g ≡ Some m → StaysShort g (c.path m.thread) m
stays_short g c m at = go (c.kept m.thread)
  where
    go : (c.path m.thread ≡ planted m.thread) ⊎ HasState g (c.path m.thread) → StaysShort g (c.path m.thread) m
    go (inl e) = subst (λ p. StaysShort g p m) (sym e) (short_planted g m.thread m)
    go (inr s) =
        let here : member_of (thread_of (c.path m.thread)) g ≡ Some m = ap (λ t. member_of t g) (c.threads m.thread) ∙ at in
        record {
          choices = omega (arith, moves_fit 1 0 0 g (c.path m.thread) m s.0 here s.1, letters_weigh (c.path m.thread));
          sends = omega (arith, moves_fit 0 1 0 g (c.path m.thread) m s.0 here s.1, targets_weigh (c.path m.thread));
          targets_are = are_targets g (c.path m.thread) s;
        }

all_short : (g : List Member) → IsGroup g → (c : Standing g) → AllByRecursion (λ m. StaysShort g (c.path m.thread) m) g
all_short g rise c = all_with (λ m. member_of m.thread g ≡ Some m) (λ m. StaysShort g (c.path m.thread) m) g (λ m at. stays_short g c m at) (all_found g rise)

letters_fit : (g : List Member) → IsGroup g → (c : Standing g) → AllByRecursion (λ m. Fit (letter_bases m) (letter_digits c.path m)) g
letters_fit g rise c = all_with (λ m. StaysShort g (c.path m.thread) m) (λ m. Fit (letter_bases m) (letter_digits c.path m)) g
    (λ m short. padded_fits letter_code 2 (choice_count m.term) (letters (c.path m.thread)) (all_letters (letters (c.path m.thread)))) (all_short g rise c)

targets_fit : (g : List Member) → IsGroup g → (c : Standing g) → AllByRecursion (λ m. Fit (target_bases g m) (target_digits g c.path m)) g
targets_fit g rise c = all_with (λ m. StaysShort g (c.path m.thread) m) (λ m. Fit (target_bases g m) (target_digits g c.path m)) g
    (λ m short. padded_fits (target_code g) (over_all receive_count g) (send_count m.term) (targets (c.path m.thread))
    (all_with (IsTarget g) (λ x. target_code g x < over_all receive_count g) (targets (c.path m.thread))
    (λ x is. target_low g x is.member is.is_member is.early) short.targets_are)) (all_short g rise c)

digits_fit : (g : List Member) → IsGroup g → (c : Standing g) (t : ℕ) (m : Member) → member_of t g ≡ Some m → Fit (bases g) (digits g t c.path)
digits_fit g rise c t m at = (
  place_low g t m at,
  fit_both (spread letter_bases g) (spread (letter_digits c.path) g) (spread (target_bases g) g) (spread (target_digits g c.path) g)
      (spread_fits letter_bases (letter_digits c.path) g (letters_fit g rise c)) (spread_fits (target_bases g) (target_digits g c.path) g (targets_fit g rise c)),
)

-- ---- equal digits are of equal names

pub all_two : {A : Type 0} (P Q R : A → Type 0) (xs : List A) → ((x : A) → P x → Q x → R x) → AllByRecursion P xs → AllByRecursion Q xs → AllByRecursion R xs
all_two P Q R [] f a b = tt
all_two P Q R (x ∷ xs) f a b = (f x a.0 b.0, all_two P Q R xs f a.1 b.1)

-- a thread without an event has moved nowhere
not_moved : (g : List Member) (c : Standing g) (t : ℕ) → member_of t g ≡ None → c.path t ≡ planted t
not_moved g c t none = go (c.kept t)
  where
    go : (c.path t ≡ planted t) ⊎ HasState g (c.path t) → c.path t ≡ planted t
    go (inl e) = e
    go (inr s) = let a = state_member g (c.path t) s in let f : member_of t g ≡ Some a.0 = subst (λ k. member_of k g ≡ Some a.0) (c.threads t) a.1 in absurd cc

everywhere : {A : Type 0} (f : Path → A) (g : List Member) (c d : Standing g) → AllByRecursion (λ m. f (c.path m.thread) ≡ f (d.path m.thread)) g → (t : ℕ) → f (c.path t) ≡ f (d.path t)
everywhere f g c d a t = go (member_of t g) refl
  where
    go : (o : Option Member) → member_of t g ≡ o → f (c.path t) ≡ f (d.path t)
    go None e = ap f (not_moved g c t e ∙ sym (not_moved g d t e))
    go (Some m) e = subst (λ k. f (c.path k) ≡ f (d.path k)) (found_thread t g m e) (all_at (λ m. f (c.path m.thread) ≡ f (d.path m.thread)) g a t m e)

same_letters : (g : List Member) → IsGroup g → (c d : Standing g) → AllByRecursion (λ m. letter_digits c.path m ≡ letter_digits d.path m) g
    → AllByRecursion (λ m. letters (c.path m.thread) ≡ letters (d.path m.thread)) g
same_letters g rise c d a = all_two (λ m. letter_digits c.path m ≡ letter_digits d.path m)
    (λ m. StaysShort g (c.path m.thread) m × StaysShort g (d.path m.thread) m) (λ m. letters (c.path m.thread) ≡ letters (d.path m.thread)) g
    (λ m e short. padded_tells letter_code (λ l. letter_code l < 2) (λ x y p q. letter_tells x y) (choice_count m.term) (letters (c.path m.thread)) (letters (d.path m.thread))
    (all_letters (letters (c.path m.thread))) (all_letters (letters (d.path m.thread))) short.0.choices short.1.choices e) a
    (all_two (λ m. StaysShort g (c.path m.thread) m) (λ m. StaysShort g (d.path m.thread) m) (λ m. StaysShort g (c.path m.thread) m × StaysShort g (d.path m.thread) m) g
    (λ m x y. (x, y)) (all_short g rise c) (all_short g rise d))

same_targets : (g : List Member) → IsGroup g → (c d : Standing g) → AllByRecursion (λ m. target_digits g c.path m ≡ target_digits g d.path m) g
    → AllByRecursion (λ m. targets (c.path m.thread) ≡ targets (d.path m.thread)) g
same_targets g rise c d a = all_two (λ m. target_digits g c.path m ≡ target_digits g d.path m)
    (λ m. StaysShort g (c.path m.thread) m × StaysShort g (d.path m.thread) m) (λ m. targets (c.path m.thread) ≡ targets (d.path m.thread)) g
    (λ m e short. padded_tells (target_code g) (IsTarget g) (λ x y p q. target_tells g x y p.member q.member p.is_member p.early q.is_member q.early) (send_count m.term)
    (targets (c.path m.thread)) (targets (d.path m.thread)) short.0.targets_are short.1.targets_are short.0.sends short.1.sends e) a
    (all_two (λ m. StaysShort g (c.path m.thread) m) (λ m. StaysShort g (d.path m.thread) m) (λ m. StaysShort g (c.path m.thread) m × StaysShort g (d.path m.thread) m) g
    (λ m x y. (x, y)) (all_short g rise c) (all_short g rise d))

-- ---- names

-- a name of a member, by its digits
record HasNumber (g : List Member) (name : Name) (k : ℕ) : Type 0 where
  pub at : Standing g
  pub member : Member
  pub is_member : member_of name.thread g ≡ Some member
  pub views : name.views ≡ map (λ m. own_labels (at.path m.thread)) g
  pub is : number (bases g) (digits g name.thread at.path) ≡ k

map_by : (f h : ℕ → List Label) → ((t : ℕ) → f t ≡ h t) → (g : List Member) → map (λ m. f m.thread) g ≡ map (λ m. h m.thread) g
map_by f h e [] = refl
map_by f h e (m ∷ ms) = ap₂ (λ x xs. x ∷ xs) (e m.thread) (map_by f h e ms)

number_tells_name : (g : List Member) → IsGroup g → (x y : Name) (k : ℕ) → HasNumber g x k → HasNumber g y k → x ≡ y
number_tells_name g rise x y k a b =
    let fa : Fit (bases g) (digits g x.thread a.at.path) = digits_fit g rise a.at x.thread a.member a.is_member in
    let fb : Fit (bases g) (digits g y.thread b.at.path) = digits_fit g rise b.at y.thread b.member b.is_member in
    let same : digits g x.thread a.at.path ≡ digits g y.thread b.at.path = number_tells (bases g) (digits g x.thread a.at.path) (digits g y.thread b.at.path) fa fb (a.is ∙ sym b.is) in
    let place : place_in g x.thread ≡ place_in g y.thread = cc in
    let rest : spread (letter_digits a.at.path) g ++ spread (target_digits g a.at.path) g ≡ spread (letter_digits b.at.path) g ++ spread (target_digits g b.at.path) g = cc in
    let la = letters_fit g rise a.at in
    let lb = letters_fit g rise b.at in
    let parts = both_same (spread (letter_digits a.at.path) g) (spread (letter_digits b.at.path) g) (spread (target_digits g a.at.path) g) (spread (target_digits g b.at.path) g)
    (fit_length (spread letter_bases g) (spread (letter_digits a.at.path) g) (spread_fits letter_bases (letter_digits a.at.path) g la)
    ∙ sym (fit_length (spread letter_bases g) (spread (letter_digits b.at.path) g) (spread_fits letter_bases (letter_digits b.at.path) g lb))) rest in
    let ls = same_letters g rise a.at b.at (spread_tells letter_bases (letter_digits a.at.path) (letter_digits b.at.path) g la lb parts.0) in
    let ts = same_targets g rise a.at b.at (spread_tells (target_bases g) (target_digits g a.at.path) (target_digits g b.at.path) g (targets_fit g rise a.at) (targets_fit g rise b.at) parts.1) in
    let alike : AreAlike g a.at b.at = record { letters_are = everywhere letters g a.at b.at ls; targets_are = everywhere targets g a.at b.at ts } in
    let views : x.views ≡ y.views = a.views ∙ map_by (λ t. own_labels (a.at.path t)) (λ t. own_labels (b.at.path t)) (λ t. ap own_labels (digits_tell g a.at b.at alike t)) g ∙ sym b.views in
    ap₂ (λ t v. record { thread = t; views = v }) (place_tells g x.thread y.thread a.member b.member a.is_member b.is_member place) views

numbered : (g : List Member) → IsGroup g → (name : Name) (word : List Label) (chain : Chain g word) (m : Member) → member_of name.thread g ≡ Some m → name ≡ path_name_of g name.thread word
    → (k : ℕ) × (k < paths_most g) × HasNumber g name k
numbered g rise name word chain m at e =
    let c : Covers g Any chain.end word = standing g word chain in
    let s : Standing g = as_standing g chain.end word c in (
      number (bases g) (digits g name.thread s.path),
      subst (λ n. number (bases g) (digits g name.thread s.path) < n) (bases_product g) (number_low (bases g) (digits g name.thread s.path) (digits_fit g rise s name.thread m at)),
      record {
        at = s;
        member = m;
        is_member = at;
        views = ap (λ n. n.views) e ∙ map_by (λ t. view_of t word) (λ t. own_labels (s.path t)) (λ t. sym (c.told t)) g;
        is = refl;
      },
    )

path_numbered : (g : List Member) → IsGroup g → (name : Name) → IsPathName g name → (k : ℕ) × (k < paths_most g) × HasNumber g name k
path_numbered g rise name is = numbered g rise name is.word is.chain is.member is.is_member is.views

group_numbered : (g : List Member) → IsGroup g → (name : Name) → IsGroupName g name → (k : ℕ) × (k < paths_most g) × HasNumber g name k
group_numbered g rise name is =
    let c : Covers g Any is.chain.end is.word = standing g is.word is.chain in
    let s : Any (c.path name.thread) × (path_state g (c.path name.thread) ≡ Some (settled is.member)) = c.stands name.thread is.member is.is_member in
    let m : (m : Member) × (member_of (thread_of (c.path name.thread)) g ≡ Some m) = state_member g (c.path name.thread) (settled is.member, s.1) in
    numbered g rise name is.word is.chain m.0 (subst (λ t. member_of t g ≡ Some m.0) (c.threads name.thread) m.1) is.views

apart_alike : (names : List Name) → NoNameTwice names → NoneAlike names
apart_alike [] d = tt
apart_alike (n ∷ ns) d = (d.0, apart_alike ns d.1)

pub path_names_few : (g : List Member) (names : List Name) → IsGroup g → NoNameTwice names → AllByRecursion (IsPathName g) names → length names ≤ paths_most g
path_names_few g names rise d a = counted (HasNumber g) (paths_most g) (number_tells_name g rise) names
    (all_with (IsPathName g) (λ n. (k : ℕ) × (k < paths_most g) × HasNumber g n k) names (path_numbered g rise) a) (apart_alike names d)

pub group_names_few : (g : List Member) (names : List Name) → IsGroup g → NoNameTwice names → AllByRecursion (IsGroupName g) names → length names ≤ paths_most g
group_names_few g names rise d a = counted (HasNumber g) (paths_most g) (number_tells_name g rise) names
    (all_with (IsGroupName g) (λ n. (k : ℕ) × (k < paths_most g) × HasNumber g n k) names (group_numbered g rise) a) (apart_alike names d)

-- so both together are at most what is enough
pub names_fit : (g : List Member) (paths groups : List Name) → IsGroup g → NoNameTwice paths → AllByRecursion (IsPathName g) paths → NoNameTwice groups → AllByRecursion (IsGroupName g) groups
    → length paths + length groups ≤ enough_for g
names_fit g paths groups rise dp ap dg ag = omega (arith, path_names_few g paths rise dp ap, group_names_few g groups rise dg ag)
