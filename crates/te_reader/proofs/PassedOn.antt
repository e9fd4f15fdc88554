-- A refusal of a part is one of the whole.
use Rattle.std.proofs.Common.{◌≡◌}
use Rattle.std.specs.Prelude.{ℕ, List, Option, None, Err}
use Rattle.te_reader.specs.declared.refusal.Refusal.{Refusal}
use Rattle.te_reader.specs.declared.refusal.Refusal.TheVariants as faults
use Rattle.te_reader.specs.Lexed.{Stream}
use Rattle.te_terms.specs.declared.code.Node.{Node}
use Rattle.te_terms.specs.Terms.{Term}
use Rattle.te_reader.specs.NameReads.{Read}
use Rattle.te_reader.specs.Reads.{Body}
use Rattle.te_reader.specs.Bodies.{OnRead}
use Rattle.te_reader.specs.Answering.{AnswersRead, AnswersEvent, DeclaresChannel}

pub passed_on : {R Q X Y : Type 0} (e : Refusal) (seen : R → X) (seen' : Q → Y) (old new old' new' : Stream)
    (o : Read X) (o' : Read Y) → AnswersRead (Err e) seen old new o → (o ≡ None → o' ≡ None)
    → AnswersRead (Err e) seen' old' new' o'
passed_on faults.Refused seen seen' old new old' new' o o' h none = none h
passed_on faults.Memory seen seen' old new old' new' o o' h none = tt

pub declared_on : {Q Y : Type 0} (e : Refusal) (seen : Q → Y) (old new : Stream) (o : Option (List (List ℕ)))
    (o' : Read Y) → DeclaresChannel (Err e) o → (o ≡ None → o' ≡ None) → AnswersRead (Err e) seen old new o'
declared_on faults.Refused seen old new o o' h none = none h
declared_on faults.Memory seen old new o o' h none = tt

pub event_refused : {R X : Type 0} (e : Refusal) (seen : R → X) (old new old' new' : Stream) (level : ℕ)
    (before after : List Node) (o : Read X) (o' : Read Term) → AnswersRead (Err e) seen old new o
    → (o ≡ None → o' ≡ None) → AnswersEvent (Err e) level before after old' new' o'
event_refused faults.Refused seen old new old' new' level before after o o' h none = none h
event_refused faults.Memory seen old new old' new' level before after o o' h none = tt

pub event_passed_on : (e : Refusal) (old new old' new' : Stream) (level level' : ℕ)
    (before after before' after' : List Node) (o o' : Read Term) → AnswersEvent (Err e) level before after old new o
    → (o ≡ None → o' ≡ None) → AnswersEvent (Err e) level' before' after' old' new' o'
event_passed_on faults.Refused old new old' new' level level' before after before' after' o o' h none = none h
event_passed_on faults.Memory old new old' new' level level' before after before' after' o o' h none = tt

-- a refusal of a statement is one of the body that it stands in
pub read_refused : {R Q X : Type 0} (e : Refusal) (seen : R → X) (old new : Stream) (o : Read X) (fact : Q → Type 0)
    (all : Read Body) → AnswersRead (Err e) seen old new o → (o ≡ None → all ≡ None) → OnRead {R = Q} (Err e) fact all
read_refused faults.Refused seen old new o fact all h none = none h
read_refused faults.Memory seen old new o fact all h none = tt

pub body_refused : {R Q Y : Type 0} (e : Refusal) (fact : R → Type 0) (o : Read Body) (seen : Q → Y) (old new : Stream)
    (all : Read Y) → OnRead {R = R} (Err e) fact o → (o ≡ None → all ≡ None) → AnswersRead (Err e) seen old new all
body_refused faults.Refused fact o seen old new all h none = none h
body_refused faults.Memory fact o seen old new all h none = tt

-- a refusal of syncs is one of the body that they stand in
pub read_passed_on : {R Q X : Type 0} (e : Refusal) (fact : R → Type 0) (fact' : Q → Type 0) (o : Read X)
    (all : Read Body) → OnRead {R = R} (Err e) fact o → (o ≡ None → all ≡ None) → OnRead {R = Q} (Err e) fact' all
read_passed_on faults.Refused fact fact' o all h none = none h
read_passed_on faults.Memory fact fact' o all h none = tt
