-- Statements, threads and programs in a stored form, by which a proof tells two of them apart.
use Rattle.std.specs.Prelude.{◌≡◌, ◌⊎◌, ℕ, List, Option, Some, None, refl}
use Rattle.std.proofs.Common.{inl, inr}
use Rattle.std.specs.Coded.{Coded, code_by, coded×, coded⊎, coded_ℕ, coded_list, coded_option}
use Rattle.te_terms.specs.Expressions.{Expression}
use Rattle.te_terms.specs.Terms.{Term}
use Rattle.te_terms.specs.Stored.{coded_value, coded_expression, coded_term}
use Rattle.te_terms.specs.declared.value.Atom.{Atom}
use Rattle.te_script.specs.declared.wish.Site.{Site}
use Rattle.te_script.specs.Scripts.{Statement, sync, emit, repeat, Thread, Program}
use Rattle.te_script.specs.Wishes.{Step, syncing, emitting, site_at}
use Rattle.te_script.specs.Cores.{Next, waits, ended, failed, At}

abbrev pub statement_parts : Statement → ℕ × Term ⊎ (Expression ⊎ ℕ × ℕ)
statement_parts (sync r t) = inl (r, t)
statement_parts (emit e) = inr (inl e)
statement_parts (repeat times count) = inr (inr (times, count))

abbrev pub statement_from : ℕ × Term ⊎ (Expression ⊎ ℕ × ℕ) → Statement
statement_from (inl p) = sync p.0 p.1
statement_from (inr (inl e)) = emit e
statement_from (inr (inr p)) = repeat p.0 p.1

pub statement_back : (s : Statement) → statement_from (statement_parts s) ≡ s
statement_back (sync r t) = refl
statement_back (emit e) = refl
statement_back (repeat times count) = refl

abbrev pub coded_statement : Coded Statement
coded_statement =
    code_by (ℕ × Term ⊎ (Expression ⊎ ℕ × ℕ)) (coded⊎ (coded× coded_ℕ coded_term) (coded⊎ coded_expression (coded× coded_ℕ coded_ℕ)))
    statement_parts statement_from statement_back

abbrev pub coded_bytes : Coded (List ℕ)
coded_bytes = coded_list coded_ℕ

abbrev pub coded_thread : Coded Thread
coded_thread =
    code_by (List ℕ × (List (List ℕ) × List Statement)) (coded× coded_bytes (coded× (coded_list coded_bytes) (coded_list coded_statement)))
    (λ t. (t.name, (t.registers, t.statements)))
    (λ p. record { name = p.0; registers = p.1.0; statements = p.1.1 })
    (λ _. refl)

abbrev pub coded_program : Coded Program
coded_program =
    code_by (List (List ℕ) × List Thread) (coded× (coded_list coded_bytes) (coded_list coded_thread)) (λ p. (p.channels, p.threads))
    (λ p. record { channels = p.0; threads = p.1 })
    (λ _. refl)

abbrev pub coded_site : Coded Site
coded_site = code_by (ℕ × ℕ) (coded× coded_ℕ coded_ℕ) (λ s. (s.statement, s.pass)) (λ p. site_at p.0 p.1) (λ _. refl)

abbrev pub step_parts : Step → Site × (ℕ × Term) ⊎ Site × Expression
step_parts (syncing at r t) = inl (at, (r, t))
step_parts (emitting at e) = inr (at, e)

abbrev pub step_from : Site × (ℕ × Term) ⊎ Site × Expression → Step
step_from (inl p) = syncing p.0 p.1.0 p.1.1
step_from (inr p) = emitting p.0 p.1

pub step_back : (s : Step) → step_from (step_parts s) ≡ s
step_back (syncing at r t) = refl
step_back (emitting at e) = refl

abbrev pub coded_step : Coded Step
coded_step =
    code_by (Site × (ℕ × Term) ⊎ Site × Expression) (coded⊎ (coded× coded_site (coded× coded_ℕ coded_term)) (coded× coded_site coded_expression))
    step_parts step_from step_back

abbrev pub next_parts : Next → Site × (ℕ × (Term × List Step)) ⊎ Option (List Atom)
next_parts (waits at r t rest) = inl (at, (r, (t, rest)))
next_parts ended = inr None
next_parts (failed v) = inr (Some v)

abbrev pub next_from : Site × (ℕ × (Term × List Step)) ⊎ Option (List Atom) → Next
next_from (inl p) = waits p.0 p.1.0 p.1.1.0 p.1.1.1
next_from (inr None) = ended
next_from (inr (Some v)) = failed v

pub next_back : (n : Next) → next_from (next_parts n) ≡ n
next_back (waits at r t rest) = refl
next_back ended = refl
next_back (failed v) = refl

abbrev pub coded_next : Coded Next
coded_next =
    code_by (Site × (ℕ × (Term × List Step)) ⊎ Option (List Atom))
    (coded⊎ (coded× coded_site (coded× coded_ℕ (coded× coded_term (coded_list coded_step)))) (coded_option coded_value))
    next_parts next_from next_back

abbrev pub coded_at : Coded At
coded_at =
    code_by (Thread × (List (List Atom) × Next)) (coded× coded_thread (coded× (coded_list coded_value) coded_next))
    (λ a. (a.thread, (a.stand.emitted, a.stand.next)))
    (λ p. record { thread = p.0; stand = record { emitted = p.1.0; next = p.1.1 } })
    (λ _. refl)
