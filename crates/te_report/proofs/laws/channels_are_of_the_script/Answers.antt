use Rattle.te_report.proofs.ChannelsOfScript.{of_script}
use Rattle.te_report.proofs.laws.channels_are_of_the_script.Goals as goal

pub returns : goal.returns
returns c = of_script
