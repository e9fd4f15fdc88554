-- A turn that was taken and given back is a call, and calls make up a longer call.
use Rattle.std.proofs.Common.{◌≡◌, ℕ, ◌*◌, ◌/◌, ◌≤◌, List, [], ◌∷◌, ◌++◌, length, take, All, Contains, refl, ap, sym, ◌∙◌, subst, arith, length-append, append_assoc}
use Rattle.std.proofs.lemmas.List.{append-nil, take_at}
use Rattle.std.proofs.lemmas.List.Elements.{All-cons, All-nil, All-weaker, All-contains, Contains-append_right}
use mathlib.Core.List.{IsPrefix}
use Rattle.te_lock.specs.Entries.{entries_by}
use Rattle.te_lock.specs.Lock.{Knowledge, WaitsFor}
use Rattle.te_lock.proofs.Beginnings.{prefix_longer, prefix_length, all_by, entries_by-append}
use Rattle.te_history.specs.declared.entry.Entry.{Entry}
use Rattle.te_history.specs.Follows.{caller_of}
use Rattle.te_board.specs.Boards.{BoardLog, Appends}
use Rattle.te_runtime.specs.Calls.{FoundFree, Looked, Called, board_of}
use Rattle.te_runtime.specs.Turns.{Entered, GrowsBy, TurnGoesOn, Left}

-- ---- the words that were found

-- the first of the words that were added tells no more than all of them do
reached : (n : ℕ) (before after others : List ℕ) (first : ℕ) → after ≡ before ++ first ∷ others → All (λ word. word / 2 ≤ n) after → first / 2 ≤ n
reached n before after others first grew most =
    All-contains (λ word. word / 2 ≤ n) after first most (subst (λ (l : List ℕ). Contains l first) (sym grew)
    (Contains-append_right before (first ∷ others) first (0, omega arith, refl)))

-- one look, which found the turn free
pub looked_once : (before after : List ℕ) (read : List Entry) → after ≡ before ++ (2 * length read) ∷ [] → All (λ word. word / 2 ≤ length read) after
    → Looked before after read
looked_once before after read grew most = record {
  first = 2 * length read;
  others = [];
  grew = grew;
  reaches = reached (length read) before after [] (2 * length read) grew most;
  free = (before, 2 * length read, grew, omega arith);
}

-- a wait: the first of the words that it added, of which the last found the turn free
pub looked_waiting : (before after : List ℕ) (read : List Entry) → WaitsFor (2 * length read) before after → All (λ word. word / 2 ≤ length read) after
    → Looked before after read
looked_waiting before after read ([], odd, is) most =
    let grew : after ≡ before ++ (2 * length read) ∷ [] = is ∙ ap (λ (l : List ℕ). l ++ (2 * length read) ∷ []) (append-nil before) in
    looked_once before after read grew most
looked_waiting before after read (w ∷ ws, odd, is) most =
    let grew : after ≡ before ++ w ∷ (ws ++ (2 * length read) ∷ []) = is ∙ append_assoc before (w ∷ ws) ((2 * length read) ∷ []) in
    record {
      first = w;
      others = ws ++ (2 * length read) ∷ [];
      grew = grew;
      reaches = reached (length read) before after (ws ++ (2 * length read) ∷ []) w grew most;
      free = (before ++ w ∷ ws, 2 * length read, is, omega arith);
    }

-- ---- what was appended

-- one entry is by its caller alone
pub grows_by : {before after : BoardLog} (by : ℕ) (e : Entry) → caller_of e ≡ by → Appends before after e → GrowsBy by before after
grows_by by e is a =
    record {
      callers = a.callers;
      goes_on = (
        e ∷ [],
        a.entries,
        All-cons (λ (x : Entry). caller_of x ≡ by) e [] is
            (All-nil (λ (x : Entry). caller_of x ≡ by)),
      );
    }

-- so are none
pub stays : {before after : BoardLog} (by : ℕ) → after ≡ before → GrowsBy by before after
stays {before} {after} by same = record {
  callers = ap (λ (b : BoardLog). b.callers) same;
  goes_on = ([], ap (λ (b : BoardLog). b.entries) same ∙ sym (append-nil before.entries), All-nil (λ (x : Entry). caller_of x ≡ by));
}

-- a board that was taken may be given back with entries of the caller more
pub goes_on : {p q : Knowledge Entry} {b after : BoardLog} (by : ℕ) → Entered p q b → GrowsBy by b after → by ≡ p.caller → TurnGoesOn q after
goes_on {p} {q} {b} {after} by e g is =
    let more = g.goes_on.0 in
    let by_is : by ≡ q.caller = is ∙ sym e.same.1 in record {
      callers = g.callers ∙ e.callers;
      goes_on = (more, g.goes_on.1 ∙ ap (λ (l : List Entry). l ++ more) e.list, subst (λ (k : ℕ). All (λ (x : Entry). caller_of x ≡ k) more) by_is g.goes_on.2);
    }

-- ---- a turn is a call

called_with : {p q r : Knowledge Entry} {b : BoardLog} {list : List Entry} (more : List Entry) → Entered p q b → Left q r list → list ≡ b.entries ++ more
    → entries_by caller_of q.caller more ≡ more → Called p r more
called_with {p} {q} {r} {b} {list} more e l goes by =
    let is : list ≡ q.read ++ more = goes ∙ ap (λ (xs : List Entry). xs ++ more) e.list in
    let read : r.read ≡ q.read ++ more = l.read ∙ is in
    let own : r.own ≡ q.own ++ more = l.own more is in
    let long : length q.read ≤ length r.read = omega (arith, ap length read, length-append q.read more) in
    let looked = e.looked in
    let now : entries_by caller_of q.caller (q.read ++ more) ≡ q.own ++ more =
    entries_by-append caller_of q.caller q.read more ∙ ap (λ (xs : List Entry). xs ++ entries_by caller_of q.caller more) e.whole
    ∙ ap (λ (xs : List Entry). q.own ++ xs) by in
    let goes_on : (list : List Entry) → IsPrefix list q.read → IsPrefix list r.read = λ list begins. subst (IsPrefix list) (sym read)
    (prefix_longer list q.read more begins) in
    record {
      same = (l.same.0 ∙ e.same.0, l.same.1 ∙ e.same.1);
      idle = l.idle;
      begins = goes_on p.read e.begins;
      begins_known = All-weaker (λ (list : List Entry). IsPrefix list q.read) (λ (list : List Entry). IsPrefix list r.read) goes_on p.known e.begins_known;
      reaches = omega (arith, e.reaches, long);
      law = l.law;
      looked = record {
        first = looked.first;
        others = looked.others;
        grew = l.looks ∙ looked.grew;
        reaches = omega (arith, looked.reaches, long);
        free = subst FoundFree (sym l.looks) looked.free;
      };
      own = own ∙ ap (λ (xs : List Entry). xs ++ more) e.own;
      whole = rw (read, l.same.1) (now ∙ sym own);
      front = l.front;
      known = l.known ∙ e.known;
    }

-- one entry was appended
pub called : {p q r : Knowledge Entry} {b after : BoardLog} {x : Entry} → Entered p q b → Appends b after x → caller_of x ≡ q.caller
    → Left q r after.entries → Called p r (x ∷ [])
called {p} {q} {r} {b} {after} {x} e a by l =
    called_with (x ∷ []) e l a.entries (all_by caller_of q.caller (x ∷ [])
    (All-cons (λ (y : Entry). caller_of y ≡ q.caller) x [] by (All-nil (λ (y : Entry). caller_of y ≡ q.caller))))

-- none was
pub called_same : {p q r : Knowledge Entry} {b after : BoardLog} → Entered p q b → after ≡ b → Left q r after.entries → Called p r []
called_same {p} {q} {r} {b} {after} e same l = called_with [] e l (ap (λ (x : BoardLog). x.entries) same ∙ sym (append-nil b.entries)) refl

-- the board that was given back is the one that the pass has read
pub board_is : {p q r : Knowledge Entry} {b after : BoardLog} → Entered p q b → after.callers ≡ b.callers → Left q r after.entries → board_of r ≡ after
board_is {p} {q} {r} {b} {after} e callers l =
    let lock : r.lock.callers ≡ after.callers = ap (λ k. k.callers) l.same.0 ∙ sym e.callers ∙ sym callers in
    λ i. record { callers = lock i; entries = l.read i }

pub board_same : {p q r : Knowledge Entry} {b after : BoardLog} → Entered p q b → after ≡ b → Left q r after.entries → board_of r ≡ b
board_same {p} {q} {r} {b} {after} e same l = board_is e (ap (λ (x : BoardLog). x.callers) same) l ∙ same

-- ---- calls make up a longer call

pub prefix_then : {E : Type 0} (xs ys zs : List E) → IsPrefix xs ys → IsPrefix ys zs → IsPrefix xs zs
prefix_then xs ys zs (a, is) (b, at) = (a ++ b, sym (append_assoc xs a b) ∙ ap (λ l. l ++ b) is ∙ at)

pub prefix_take : {E : Type 0} (xs ys : List E) → IsPrefix xs ys → take (length xs) ys ≡ xs
prefix_take xs ys (rest, is) = subst (λ l. take (length xs) l ≡ xs) is (take_at xs rest (length xs) refl)

unfoldable pub called_then : {p q r : Knowledge Entry} (xs ys : List Entry) → Called p q xs → Called q r ys → Called p r (xs ++ ys)
called_then {p} {q} {r} xs ys c d =
    let long : length q.read ≤ length r.read = prefix_length q.read r.read d.begins in
    record {
      same = (d.same.0 ∙ c.same.0, d.same.1 ∙ c.same.1);
      idle = d.idle;
      begins = prefix_then p.read q.read r.read c.begins d.begins;
      begins_known = subst (λ (k : List (List Entry)). All (λ (list : List Entry). IsPrefix list r.read) k) c.known d.begins_known;
      reaches = omega (arith, c.reaches, long);
      law = d.law;
      looked = record {
        first = c.looked.first;
        others = c.looked.others ++ d.looked.first ∷ d.looked.others;
        grew = d.looked.grew ∙ ap (λ l. l ++ d.looked.first ∷ d.looked.others) c.looked.grew ∙ append_assoc p.looks (c.looked.first ∷ c.looked.others)
            (d.looked.first ∷ d.looked.others);
        reaches = omega (arith, c.looked.reaches, long);
        free = d.looked.free;
      };
      own = d.own ∙ ap (λ l. l ++ ys) c.own ∙ append_assoc p.own xs ys;
      whole = d.whole;
      front = d.front;
      known = d.known ∙ c.known;
    }
