use Rattle.std.proofs.Common.{◌⊎◌, inl, inr, Err}
use Rattle.sqlite.specs.Held.{state}
use Rattle.sms_store.specs.keeping.Opened.{IsAsItWas, IsOfNoStore}
use Rattle.sms_store.proofs.Answered.{ended_ok, ended_err}
use Rattle.sms_store.proofs.keeping.Leaving.{left_by_look, shown_as_it_was}
use Rattle.sms_store.proofs.keeping.readying.judge_said.Goals as goal

pub returns-in-Ok-clause-ok : goal.returns-in-Ok-clause-ok
returns-in-Ok-clause-ok g c clean ours =
    let old = state g.S.Store c.args.conn.now in
    let h = c.in-Ok.ensures.ok clean ours in
    ended_ok c.in-Ok.judgement (λ j. g.L.Lookup.finds c.args.said.now old.now j) h.0 h.1

pub returns-in-Ok-clause-err : goal.returns-in-Ok-clause-err
returns-in-Ok-clause-err g c clean ours =
    let old = state g.S.Store c.args.conn.now in
    let new = state g.S.Store c.look.new.conn in
    let h = c.in-Ok.ensures.ok clean ours in
    ended_err c.in-Ok.judgement (λ j. g.L.Lookup.finds c.args.said.now old.now j)
    (λ error. (IsOfNoStore error ⊎ g.L.Lookup.finds c.args.said.now old.now (Err error)) × IsAsItWas old new)
    (λ error says. (inr says, shown_as_it_was old new h.0)) h.1

pub returns-in-Err-clause-err : goal.returns-in-Err-clause-err
returns-in-Err-clause-err g c clean ours = (inl c.write_cause_of.ensures.named, λ settled live. c.in-Err.ensures.err clean ours live)

pub returns-in-Ok-clause-stop : goal.returns-in-Ok-clause-stop
returns-in-Ok-clause-stop g c ours clean left may =
    let conn = c.args.conn.now in
    left_by_look g.P.Kept.stores (state g.S.Store conn) (state g.S.Store c.look.new.conn) left
    (λ db open_yet earlier. g.met.S.Store.settled conn.store db open_yet earlier)
    (λ left_it. elim (c.look.ensures.stop.crash clean left left_it) [ inl earlier ↦ inl earlier | inr same ↦ inr (same ours) ]) may

pub returns-in-Err-clause-stop : goal.returns-in-Err-clause-stop
returns-in-Err-clause-stop g c ours clean left may =
    let conn = c.args.conn.now in
    left_by_look g.P.Kept.stores (state g.S.Store conn) (state g.S.Store c.look.new.conn) left
    (λ db open_yet earlier. g.met.S.Store.settled conn.store db open_yet earlier)
    (λ left_it. elim (c.look.ensures.stop.crash clean left left_it) [ inl earlier ↦ inl earlier | inr same ↦ inr (same ours) ]) may
