use Rattle.std.proofs.Common.{refl}
use Rattle.te_watch.proofs.OneName.{keeps}
use Rattle.te_watch.proofs.observer.Observer.read.Goals as goal

pub enter_as-requires : goal.enter_as-requires
enter_as-requires c shown = keeps _ _ shown shown refl
