use Rattle.std.proofs.Common.{sym}
use Rattle.smsc_cli.specs.words.Secrets.{AddsSecret, AddsNoSecret}
use Rattle.smsc_cli.proofs.words.Lines.{at_err, first_stop, last_added, last_stop, later_stop, more_added, none_added, on_ok, some_octets}
use Rattle.smsc_cli.proofs.words.secrets.+add_from.Goals as goal

pub returns-then-is_empty-clause-ok : goal.returns-then-is_empty-clause-ok
returns-then-is_empty-clause-ok t c = none_added AddsSecret c.args.file.now c.args.secrets.now.items (sym c.if-is_empty.ensures)

pub returns-in-Ok-clause-ok : goal.returns-in-Ok-clause-ok
returns-in-Ok-clause-ok t c = on_ok c.add_from.result
    (more_added AddsSecret AddsNoSecret c.args.file.now c.in-Some.line.now c.in-Some.rest.now c.bare.result.now c.in-Some.ensures.cut c.bare.ensures c.args.secrets.now.items c.add_line.new.secrets.items c.add_from.new.secrets.items c.in-Ok.ensures.ok)
    c.add_from.ensures.ok

pub returns-in-Ok-clause-bad : goal.returns-in-Ok-clause-bad
returns-in-Ok-clause-bad t c = λ bad e.
    later_stop AddsSecret AddsNoSecret c.args.file.now c.in-Some.line.now c.in-Some.rest.now c.bare.result.now c.in-Some.ensures.cut c.bare.ensures bad c.args.number c.args.secrets.now.items c.add_line.new.secrets.items c.add_from.new.secrets.items c.in-Ok.ensures.ok (c.add_from.ensures.bad bad e)

pub returns-in-Err-clause-bad : goal.returns-in-Err-clause-bad
returns-in-Err-clause-bad t c = λ bad e.
    first_stop AddsSecret AddsNoSecret c.args.file.now c.in-Some.line.now c.in-Some.rest.now c.bare.result.now c.in-Some.ensures.cut c.bare.ensures bad c.args.number c.args.secrets.now.items c.add_line.new.secrets.items (c.in-Err.ensures.bad bad e) c.in-Err.ensures.err

pub returns-in-None-clause-ok : goal.returns-in-None-clause-ok
returns-in-None-clause-ok t c = on_ok c.add_line-in-None.result
    (last_added AddsSecret AddsNoSecret c.args.file.now (some_octets c.args.file.now (sym c.if-is_empty.ensures)) c.in-None.ensures.none c.args.secrets.now.items c.add_line-in-None.new.secrets.items)
    c.add_line-in-None.ensures.ok

pub returns-in-None-clause-bad : goal.returns-in-None-clause-bad
returns-in-None-clause-bad t c = λ bad e.
    last_stop AddsSecret AddsNoSecret c.args.file.now (some_octets c.args.file.now (sym c.if-is_empty.ensures)) c.in-None.ensures.none bad c.args.number c.args.secrets.now.items c.add_line-in-None.new.secrets.items
    (c.add_line-in-None.ensures.bad bad e) (at_err c.add_line-in-None.result _ e c.add_line-in-None.ensures.err)
