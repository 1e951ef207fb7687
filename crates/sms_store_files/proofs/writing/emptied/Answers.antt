use Rattle.sms_store_files.proofs.WrittenBack.{adds_nothing, honest, written_back}
use Rattle.sms_store_files.proofs.writing.emptied.Goals as goal

pub returns-clause-whole : goal.returns-clause-whole
returns-clause-whole g c =
    written_back c.args.log c.recover.new.self c.finish.new.self _ _ c.in_ok-recover.ensures.found c.recover.ensures.size c.in_ok-finish.ensures.open
    c.in_ok-finish.ensures.empty c.finish.ensures.keeps c.in_ok-finish.ensures.short c.into_files.ensures

pub returns-clause-crash : goal.returns-clause-crash
returns-clause-crash g c =
    adds_nothing c.args.log c.recover.new.self c.finish.new.self _ _ c.recover.ensures.crash c.recover.ensures.size c.finish.ensures.keeps c.into_files.ensures

pub returns-clause-honest : goal.returns-clause-honest
returns-clause-honest g c =
    honest c.args.log c.recover.new.self c.finish.new.self _ _ c.recover.ensures.honest c.finish.ensures.keeps c.into_files.ensures
