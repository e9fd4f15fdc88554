-- What printing is handed, as the canonical text sees it. Contracts inside this crate cite it.
use Rattle.te_reader.specs.declared.printing.Standing.{Standing as At}
use Rattle.te_reader.specs.declared.printing.Standing.TheVariants as places
use Rattle.te_reader.specs.declared.printing.Names.{Names}
use Rattle.te_reader.specs.Grammar.{EventPlace, alone, in_do, in_choose}
use Rattle.te_reader.specs.Canonical.{Spelling}

abbrev pub standing_of : At → EventPlace
standing_of places.Alone = alone
standing_of places.InDo = in_do
standing_of places.InChoose = in_choose

abbrev pub spelling_of_names : Names → Spelling
spelling_of_names names = record { channels = names.channels.now; registers = names.registers.now }
