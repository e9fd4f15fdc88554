use Rattle.tevents.proofs.reporting.report_of.Goals as goal

pub write_report-requires-clause-channels : goal.write_report-requires-clause-channels
write_report-requires-clause-channels c =
    c.channels_are_of_the_script.ensures c.args.script.now c.args.hist.now.entries c.requires.program c.requires.loose
    c.requires.of_script
