-- Scripts of the first version of the language: without a repeat. This project's own.
use Rattle.std.specs.List.{AllByRecursion}
use Rattle.te_script.specs.Scripts.{Statement, sync, emit, repeat, Thread, Program}

abbrev pub IsNoRepeat : Statement → Type 0
IsNoRepeat (sync r t) = Unit {0}
IsNoRepeat (emit e) = Unit {0}
IsNoRepeat (repeat times count) = ⊥

abbrev pub HasNoRepeat : Thread → Type 0
HasNoRepeat t = AllByRecursion IsNoRepeat t.statements

-- no thread has one
abbrev pub HasNoRepeats : Program → Type 0
HasNoRepeats p = AllByRecursion HasNoRepeat p.threads
