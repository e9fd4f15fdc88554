-- The event of a sync, read behind some nodes of a code.
use Rattle.std.proofs.Common.{◌≡◌, ℕ, List, [], refl, sym, ap, ◌∙◌}
use Rattle.std.specs.Prelude.{Some, None}
use Rattle.te_terms.specs.declared.code.Node.{Node}
use Rattle.te_terms.specs.Terms.{Term}
use Rattle.te_reader.specs.declared.token.Word.TheVariants as words
use Rattle.te_reader.specs.declared.token.Sign.TheVariants as signs
use Rattle.te_reader.specs.Tokens.{Token}
use Rattle.te_reader.specs.Heads.{word_first, sign_first}
use Rattle.te_reader.specs.Grammar.{alone}
use Rattle.te_reader.specs.NameReads.{names_of}
use Rattle.te_reader.specs.Tallies.{Tally, no_node, tally}
use Rattle.te_reader.specs.EventReads.{read_event}
use Rattle.te_reader.specs.Reads.{read_sync}
use Rattle.te_reader.proofs.FewerBefore.{event_behind_none}

module _ (channels registers : List (List ℕ)) (ts a b : List Token) (arrow : sign_first signs.Arrow ts ≡ Some a) (word : word_first words.Sync a ≡ Some b) where
  pub event_in_sync : (used : Tally) (t : Term) (c rest : List Token) → read_event 32 alone (names_of channels registers) used b ≡ Some (t, c)
      → sign_first signs.Semicolon c ≡ Some rest
      → read_sync channels registers ts ≡ Some (t, rest)
  unfolding read_sync
  event_in_sync used t c rest e f = rw (arrow, word, event_behind_none 32 alone (names_of channels registers) used t b c e, f) refl

  pub sync_not_ended : (used : Tally) (t : Term) (c : List Token) → read_event 32 alone (names_of channels registers) used b ≡ Some (t, c)
      → sign_first signs.Semicolon c ≡ None → read_sync channels registers ts ≡ None
  unfolding read_sync
  sync_not_ended used t c e f = rw (arrow, word, event_behind_none 32 alone (names_of channels registers) used t b c e, f) refl

  pub no_event_in_sync : (code : List Node) → read_event 32 alone (names_of channels registers) (tally code) b ≡ None → code ≡ []
      → read_sync channels registers ts ≡ None
  unfolding read_sync
  no_event_in_sync code e none =
      let first : read_event 32 alone (names_of channels registers) no_node b ≡ None = ap (λ x. read_event 32 alone (names_of channels registers) (tally x) b) (sym none) ∙ e in
      rw (arrow, word, first) refl
