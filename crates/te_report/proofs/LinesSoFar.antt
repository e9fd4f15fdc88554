-- The lines of a history with one entry more.
use Rattle.std.proofs.Common.{◌≡◌, ℕ, List, [], ◌∷◌, ◌++◌, sym, ap, ◌∙◌, append_assoc}
use Rattle.std.proofs.lemmas.List.{append-nil}
use Rattle.te_script.specs.Scripts.{Program}
use Rattle.te_history.specs.declared.entry.Entry.{Entry}
use Rattle.te_report.specs.Report.{Version, entry_line, entry_lines}

lines_after : (version : Version) (script : Program) (before h : List Entry) (e : Entry)
    → entry_lines version script before (h ++ e ∷ []) ≡ entry_lines version script before h ++ entry_line version script (before ++ h) e
lines_after version script before [] e =
    append-nil (entry_line version script before e) ∙ ap (λ (b : List Entry). entry_line version script b e) (sym (append-nil before))
lines_after version script before (x ∷ xs) e =
    ap (λ (text : List ℕ). entry_line version script before x ++ text) (lines_after version script (before ++ x ∷ []) xs e)
    ∙ sym (append_assoc (entry_line version script before x) (entry_lines version script (before ++ x ∷ []) xs) (entry_line version script ((before ++ x ∷ []) ++ xs) e))
    ∙ ap (λ (b : List Entry). (entry_line version script before x ++ entry_lines version script (before ++ x ∷ []) xs) ++ entry_line version script b e) (append_assoc before (x ∷ []) xs)

pub lines_next : (version : Version) (script : Program) (h : List Entry) (e : Entry)
    → entry_lines version script [] (h ++ e ∷ []) ≡ entry_lines version script [] h ++ entry_line version script h e
lines_next version script h e = lines_after version script [] h e
