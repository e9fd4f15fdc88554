-- Each fresh channel in an entry of a legal history of a script was made by a member of a commit at or before it.
use Rattle.std.proofs.Common.{◌≡◌, ◌⊎◌, inl, inr, ℕ, zero, suc, ◌<◌, ◌≤◌, ◌^◌, List, [], ◌∷◌, ◌++◌, length, take, Some, refl, sym, ap, subst, ◌∙◌, arith}
use Rattle.std.proofs.lemmas.Bool.{cases_lt}
use Rattle.std.proofs.lemmas.Option.{slice_get_within}
use Rattle.std.proofs.lemmas.List.{length-append, length-take}
use Rattle.std.specs.Prelude.{slice_get}
use Rattle.std.specs.List.{AllByRecursion}
use Rattle.te_terms.specs.Values.{fresh_channel}
use Rattle.te_terms.specs.Limits.{most_fresh}
use Rattle.te_terms.specs.Terms.{Term}
use Rattle.te_terms.specs.Measures.{fresh_count}
use Rattle.te_cert.specs.declared.cert.Member.{Member}
use Rattle.te_script.specs.Scripts.{Thread, Program, IsThread, IsProgram}
use Rattle.te_history.specs.declared.entry.Entry.{Entry}
use Rattle.te_history.specs.declared.entry.Entry.TheVariants as entries
use Rattle.te_history.specs.State.{Standing, idle, parked, given, ended, state}
use Rattle.te_history.specs.Follows.{Stands, AreEvents, caller_of, LooselyFollows, IsLoose, IsLegal}
use Rattle.te_history.proofs.AfterEntry.{posts_by_at_most, length-state}
use Rattle.te_history.proofs.GivenOnce.{ticket_below}
use Rattle.te_history.proofs.Growing.{legal_is_loose}
use Rattle.te_history.proofs.Places.{all_by_places}
use Rattle.te_terms.proofs.Lists.{all_at, get-last, get-longer, take_all, take_more, get_front, get_taken}
use Rattle.te_report.specs.OfScript.{taken, WishedBy, WishedFrom, IsOfScript}
use Rattle.te_report.specs.Fitting.{EntryIsSpelled}
use Rattle.te_report.proofs.Growing.{grows_wished, AtPlace, at_place}
use Rattle.te_report.proofs.FittingHas.{entry_has}
use Rattle.te_report.proofs.ChannelsStepped.{Makes}
use Rattle.te_report.proofs.ChannelsOfScript.{StandingHas, SoFar, MembersMake, goes_on, first}
use Rattle.te_serial.specs.FreshChannels.{HasMemberAt, IsMadeByMember, ChannelsAreMade}
use Rattle.te_serial.proofs.ChannelsMore.{term_more, outcome_more, outcomes_more, entry_more, entries_more}

-- the channel is a fresh one of a member of a commit
pub record IsMade (h : List Entry) (c : ℕ) : Type 0 where
  pub at : ℕ
  pub member : Member
  pub has : HasMemberAt h at member
  pub count : ℕ
  pub few : count < most_fresh
  pub number : c ≡ fresh_channel member.thread member.ticket count

made_more : (h more : List Entry) (c : ℕ) → IsMade h c → IsMade (h ++ more) c
made_more h more c m = record {
  at = m.at;
  member = m.member;
  has = (m.has.0, m.has.1, m.has.2, m.has.3, get-longer h more m.at (entries.Commit m.has.0 m.has.1 m.has.2) m.has.4, m.has.5);
  count = m.count;
  few = m.few;
  number = m.number;
}

-- ---- lists cut behind a place

module _ (channels : ℕ) (threads : List Thread) (each : AllByRecursion (IsThread channels) threads) where
  -- a channel of the script, or one that was made by then
  abbrev Known : List Entry → ℕ → Type 0
  Known h c = (c < channels) ⊎ IsMade h c

  low : (h : List Entry) (c : ℕ) → c < channels → Known h c
  low h c lt = inl lt

  abbrev So : List Entry → List Entry → Type 0
  So k h = SoFar (Known k) channels threads (low k) each h

  known_more : (h more : List Entry) (c : ℕ) → Known h c → Known (h ++ more) c
  known_more h more c (inl lt) = inl lt
  known_more h more c (inr made) = inr (made_more h more c made)

  standing_more : (h more : List Entry) (x : Standing) → StandingHas (Known h) channels threads (low h) each x → StandingHas (Known (h ++ more)) channels threads (low (h ++ more)) each x
  standing_more h more idle s = tt
  standing_more h more (parked ticket event) s = record { term = term_more (Known h) (Known (h ++ more)) (known_more h more) event s.term; few = s.few }
  standing_more h more (given ticket outcome) s = outcome_more (Known h) (Known (h ++ more)) (known_more h more) outcome s
  standing_more h more ended s = tt

  so_more : (h more : List Entry) → So h h → So (h ++ more) h
  so_more h more s = record {
    taken_so = λ t. outcomes_more (Known h) (Known (h ++ more)) (known_more h more) (taken t h) (s.taken_so t);
    state_so = λ t x stands. standing_more h more x (s.state_so t x stands);
    entries_so = entries_more (Known h) (Known (h ++ more)) (known_more h more) h s.entries_so;
  }

  makes : (h : List Entry) (e : Entry) → MembersMake (Known (h ++ e ∷ [])) channels threads (low (h ++ e ∷ [])) each e
  makes h (entries.Commit by cert outcomes) =
      all_by_places (λ (m : Member). Makes (Known (h ++ entries.Commit by cert outcomes ∷ [])) m.thread m.ticket) cert.members (λ i m is count few.
      inr (record { at = length h; member = m; has = (by, cert, outcomes, i, get-last h (entries.Commit by cert outcomes), is); count = count; few = few; number = refl }))
  makes h (entries.Post by ticket event) = tt
  makes h (entries.Withdraw by ticket) = tt
  makes h (entries.Take by ticket outcome) = tt
  makes h (entries.Rest by) = tt
  makes h (entries.Stuck by) = tt
  makes h (entries.End by how) = tt

  record Holds (h : List Entry) : Type 0 where
    so : So h h
    places : (place : ℕ) (e : Entry) → slice_get h place ≡ Some e → EntryIsSpelled (Known (take (suc place) h)) e

  holds_next : (h : List Entry) (e : Entry) → LooselyFollows (length threads) h e → WishedBy (slice_get threads (caller_of e)) (taken (caller_of e) h) e → Holds h → Holds (h ++ e ∷ [])
  holds_next h e follows w holds = record { so = next; places = λ place x is. at place x is (cases_lt place (length h)) }
    where
      next : So (h ++ e ∷ []) (h ++ e ∷ [])
      next = goes_on (Known (h ++ e ∷ [])) channels threads (low (h ++ e ∷ [])) each h e follows w (so_more h (e ∷ []) holds.so) (makes h e)

      at : (place : ℕ) (x : Entry) → slice_get (h ++ e ∷ []) place ≡ Some x → (place < length h) ⊎ (length h ≤ place) → EntryIsSpelled (Known (take (suc place) (h ++ e ∷ []))) x
      at place x is (inl lt) =
          let was = holds.places place x (sym (get_front h (e ∷ []) place lt) ∙ is) in
          subst (λ (k : List Entry). EntryIsSpelled (Known k) x) (sym (take_more h (e ∷ []) (suc place) (omega arith))) was
      at place x is (inr le) =
          let whole = take_all (h ++ e ∷ []) (suc place) (let n = length-append h (e ∷ []) in omega arith) in
          subst (λ (k : List Entry). EntryIsSpelled (Known k) x) (sym whole) (all_at (EntryIsSpelled (Known (h ++ e ∷ []))) (h ++ e ∷ []) place x next.entries_so is)

  holds_all : (history : List Entry) → IsLoose (length threads) history → WishedFrom threads [] history → Holds history
  holds_all history loose wished =
      grows_wished (length threads) threads Holds holds_next [] history loose wished
      (record { so = first (Known []) channels threads (low []) each; places = λ place e is. absurd cc })

-- ---- the member is a thread of the script, and its ticket is low

pub member_low : (callers : ℕ) (h : List Entry) (ms : List Member) (gs : List _) (i : ℕ) (m : Member) → IsLoose callers h → AreEvents (state callers h) ms gs → slice_get ms i ≡ Some m
    → (m.thread < callers) × (m.ticket < length h)
member_low callers h [] gs i m loose events is = absurd cc
member_low callers h (x ∷ xs) [] i m loose events is = absurd events
member_low callers h (x ∷ xs) (g ∷ gs) zero m loose events is =
    let same : x ≡ m = cc in
    let within : x.thread < callers = omega (arith, slice_get_within (state callers h).callers x.thread (parked x.ticket g.term) events.1, length-state callers h) in
    let below : x.ticket < length h = omega (arith, ticket_below callers h x.thread x.ticket g.term loose events.1, posts_by_at_most x.thread h) in
    subst (λ (y : Member). (y.thread < callers) × (y.ticket < length h)) same (within, below)
member_low callers h (x ∷ xs) (g ∷ gs) (suc i) m loose events is = member_low callers h xs gs i m loose events.2 is

pub are_made : (script : Program) (history : List Entry) → IsProgram script → IsLegal (length script.threads) history → IsOfScript script history → length history ≤ 200000 → ChannelsAreMade history
are_made script history is legal wished short = λ place e at.
    entry_has (λ c. 2 ^ 30 ≤ c → IsMadeByMember history place c) e
    (entry_more (Known (length script.channels) script.threads is.each (take (suc place) history)) (λ c. 2 ^ 30 ≤ c → IsMadeByMember history place c) (by_channel place) e
    ((holds_all (length script.channels) script.threads is.each history loose wished).places place e at))
  where
    loose : IsLoose (length script.threads) history
    loose = legal_is_loose (length script.threads) history legal

    by_channel : (place c : ℕ) → Known (length script.channels) script.threads is.each (take (suc place) history) c → 2 ^ 30 ≤ c → IsMadeByMember history place c
    by_channel place c (inl lt) high = let few = is.channels in absurd (omega arith)
    by_channel place c (inr made) high =
        let found = get_taken history (suc place) made.at (entries.Commit made.has.0 made.has.1 made.has.2) made.has.4 in
        let there : AtPlace (length script.threads) script.threads [] (take made.at history) (entries.Commit made.has.0 made.has.1 made.has.2) =
        at_place (length script.threads) script.threads [] history made.at (entries.Commit made.has.0 made.has.1 made.has.2) loose wished found.1 in
        let low = member_low (length script.threads) (take made.at history) made.has.1.members there.follows.2.group made.has.3 made.member there.loose there.follows.2.events made.has.5 in
        let early = found.0 in
        let threads = is.threads in
        let thread = low.0 in
        let ticket = low.1 in
        let cut = length-take made.at history in
        record {
          at = made.at;
          early = omega arith;
          member = made.member;
          has = (made.has.0, made.has.1, made.has.2, made.has.3, found.1, made.has.5);
          count = made.count;
          thread = omega arith;
          ticket = grind (arith, cut);
          few = made.few;
          number = made.number;
        }

-- an event that is parked before an entry has few nodes `fresh`
pub posted_few : (script : Program) (history : List Entry) → IsProgram script → IsLoose (length script.threads) history → IsOfScript script history
    → (place : ℕ) (e : Entry) → slice_get history place ≡ Some e
    → (t ticket : ℕ) (event : Term) → Stands (state (length script.threads) (take place history)) t (parked ticket event) → fresh_count event ≤ most_fresh
posted_few script history is loose wished place e at t ticket event stands =
    let there : AtPlace (length script.threads) script.threads [] (take place history) e = at_place (length script.threads) script.threads [] history place e loose wished at in
    ((holds_all (length script.channels) script.threads is.each (take place history) there.loose there.of_script).so.state_so t (parked ticket event) stands).few
