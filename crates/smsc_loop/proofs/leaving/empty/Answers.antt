use Rattle.std.proofs.Common.{inl}
use Rattle.smsc_loop.proofs.Drops.{emptied_then}
use Rattle.smsc_loop.proofs.leaving.empty.Goals as goal

pub returns-then-put_due : goal.returns-then-put_due
returns-then-put_due g c =
    emptied_then _ _ _ _ _ c.put_due.ensures.seat c.put_due.ensures.dropped c.if-put_due.ensures.put c.put_own.ensures.seat c.put_own.ensures.dropped c.put_own.ensures.put

pub returns-else-put_due : goal.returns-else-put_due
returns-else-put_due g c = (c.put_due.ensures.seat, c.put_due.ensures.dropped, inl c.if-put_due.ensures.put)
