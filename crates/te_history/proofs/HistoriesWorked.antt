-- Which worked histories are legal, and which are loose alone.
use Rattle.std.proofs.Common.{◌≡◌, refl, lit<}
use Rattle.std.specs.Prelude.{◌≢◌, List, [], ◌∷◌, Bool, true, false, None}
use Rattle.te_terms.specs.Terms.{never}
use Rattle.te_terms.specs.Joint.{meeting, labelled, after_choice, CanCommit}
use Rattle.te_terms.specs.Steps.{come_to}
use Rattle.te_history.specs.declared.status.How.TheVariants as ways
use Rattle.te_history.specs.declared.entry.Entry.{Entry}
use Rattle.te_history.specs.declared.entry.Entry.TheVariants as entries
use Rattle.te_history.specs.State.{state, parked_list}
use Rattle.te_history.specs.Follows.{Commits, IsLegal, IsLoose}
use Rattle.te_history.proofs.NoCommit.{lone_never_commits}
use Rattle.te_history.proofs.RowsExchange as exchange
use Rattle.te_terms.proofs.Lists.{some_item}

-- ---- the exchange

exchange_commits : Commits (state 2 exchange.posts) exchange.cert exchange.outcomes
exchange_commits = record {
  some_member = some_item;
  rise = (lit< tt, tt);
  group = come_to 0 0 0 exchange.sends ∷ come_to 1 0 0 exchange.receives ∷ [];
  events = (refl, refl, (refl, refl, tt));
  word = meeting 0 1 ∷ [];
  plays = refl;
}

pub exchange_legal : IsLegal 2 exchange.history
exchange_legal = (
  ((refl, refl, refl), tt),
  (
    ((refl, refl, refl), tt),
    (((refl, lit< tt, exchange_commits), tt), (((refl, refl), tt), (((refl, refl), tt), (((refl, refl), tt), (((refl, refl), tt), tt))))),
  ),
)

pub exchange_can_commit : CanCommit (parked_list (state 2 exchange.posts))
exchange_can_commit = record {
  side = λ t. true;
  word = meeting 0 1 ∷ [];
  results = exchange.outcomes;
  is_some = some_item;
  reduces = record { actions = labelled (meeting 0 1) ∷ []; end = _; labels_are = refl; reaches = refl; ends_so = refl };
}

-- ---- declared stuck while the two can commit: loose, and not legal

pub given_up_loose : IsLoose 2 exchange.given_up
given_up_loose = (
  (refl, refl, refl),
  (
    (refl, refl, refl),
    (
      (refl, (0, exchange.sends, refl), (tt, (tt, tt))),
      ((refl, (0, exchange.sends, refl)), ((refl, (0, exchange.receives, refl)), tt)),
    ),
  ),
)

pub given_up_not_legal : ¬ IsLegal 2 exchange.given_up
given_up_not_legal legal = legal.1.1.0.1 exchange_can_commit

-- ---- a withdrawal, a rest and a stuck

abbrev unmet : List Entry
unmet =
    entries.Post 0 0 never
    ∷ entries.Rest 1
    ∷ entries.Withdraw 0 0
    ∷ entries.Post 0 1 never
    ∷ entries.End 1 (ways.Done [])
    ∷ entries.Stuck 0
    ∷ entries.End 0 ways.Stuck
    ∷ []

never_chooses : (left : Bool) → after_choice left never ≡ None
never_chooses true = refl
never_chooses false = refl

never_commits : ¬ CanCommit (record { thread = 0; ticket = 1; event = never } ∷ [])
never_commits = lone_never_commits _ (record { settled = refl; no_choice = never_chooses; no_meeting = refl; unfinished = refl })

pub unmet_legal : IsLegal 2 unmet
unmet_legal = (
  ((refl, refl, refl), tt),
  (
    ((refl, lit< tt, refl), tt),
    (
      ((refl, (never, refl)), tt),
      (
        ((refl, refl, refl), tt),
        (((refl, refl), tt), (((refl, (1, never, refl), (tt, (tt, tt))), never_commits), (((refl, (1, never, refl)), tt), tt))),
      ),
    ),
  ),
)
