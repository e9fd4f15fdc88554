-- The room that a board keeps, after an entry and at first.
use Rattle.std.proofs.Common.{◌≡◌, ℕ, zero, suc, ◌+◌, ◌≤◌, [], ◌∷◌, ◌++◌, length, replicate, refl, ap, sym, arith, length-append}
use Rattle.te_history.specs.declared.entry.Entry.{Entry}
use Rattle.te_history.specs.State.{idle, state}
use Rattle.te_history.specs.Follows.{Follows}
use Rattle.te_history.specs.Histories.{History, pushed}
use Rattle.te_history.specs.Room.{room, callers_room, claimed, freed}
use Rattle.te_history.proofs.AfterEntry.{legal-after}
use Rattle.te_board.specs.Boards.{IsReserved, most_entries}

pub idle_room : (n : ℕ) → callers_room (replicate n idle) ≡ n
idle_room zero = refl
idle_room (suc n) = let rest = idle_room n in omega (arith, rest)

-- a new board reserves an end for each caller, a rest, and a declaration that it is stuck
pub reserved_first : (h : History) (n : ℕ) → h.callers ≡ n → n ≤ 64 → h.entries ≡ [] → most_entries ≤ h.spare → IsReserved h (n + 2)
reserved_first h n callers few entries spare =
    let none : length h.entries ≡ 0 = ap length entries in
    let first : room (state h.callers h.entries) ≡ n + 2 = rw (callers, entries) (omega (arith, idle_room n)) in
    record {
      legal = rw entries tt;
      reserved_is = sym first;
      few = omega (arith, none, few);
      spare = omega (arith, none, spare);
    }

-- with an entry that follows, for which there is room
pub reserved_after : (h : History) (reserved : ℕ) (e : Entry) → IsReserved h reserved → Follows h.callers h.entries e
    → room (state h.callers (h.entries ++ e ∷ [])) + freed e ≡ room (state h.callers h.entries) + claimed e
    → length h.entries + 1 + reserved + claimed e ≤ most_entries + freed e → 1 ≤ h.spare
    → (after : ℕ) → after + freed e ≡ reserved + claimed e → IsReserved (pushed h e) after
reserved_after h reserved e kept follows goes fits some after is = record {
  legal = legal-after h.callers h.entries e kept.legal follows;
  reserved_is = let was = kept.reserved_is in omega (arith, was, goes, is);
  few = omega (arith, fits, is, length-append h.entries (e ∷ []));
  spare = let all = kept.spare in omega (arith, all, some, length-append h.entries (e ∷ []));
}

-- no entry gives back more than is reserved and claimed
pub gives_back : (h : History) (reserved : ℕ) (e : Entry) → IsReserved h reserved
    → room (state h.callers (h.entries ++ e ∷ [])) + freed e ≡ room (state h.callers h.entries) + claimed e → freed e ≤ reserved + claimed e
gives_back h reserved e kept goes = let was = kept.reserved_is in omega (arith, was, goes)

-- there is a spare place for it
pub some_spare : (h : History) (reserved : ℕ) (e : Entry) → IsReserved h reserved
    → room (state h.callers (h.entries ++ e ∷ [])) + freed e ≡ room (state h.callers h.entries) + claimed e
    → length h.entries + 1 + reserved + claimed e ≤ most_entries + freed e → 1 ≤ h.spare
some_spare h reserved e kept goes fits =
    let was = kept.reserved_is in
    let all = kept.spare in
    omega (arith, was, goes, fits, all)
