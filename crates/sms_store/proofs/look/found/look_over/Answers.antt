use Rattle.sqlite.specs.Held.{state}
use Rattle.sms_store.specs.centre.CentreRows.{centre_stores}
use Rattle.sms_store.specs.centre.Lawful.{centre_lawful}
use Rattle.sms_store.proofs.keeping.Closed.{found_again}
use Rattle.sms_store.proofs.look.Keeping.{with_setup}
use Rattle.sms_store.proofs.look.found.look_over.Goals as goal

pub returns-clause-found : goal.returns-clause-found
returns-clause-found g c clean rows is =
    let kept = (c.in_ok-keep.ensures.opened (c.in_ok-looked.ensures.clean clean)).unchanged rows is in
    c.in_ok-looked.ensures.found clean rows (with_setup _ _ _ rows c.in_ok-keep.ensures.setup kept)

pub returns-clause-held : goal.returns-clause-held
returns-clause-held g c clean image rows holds is found =
    let opened = c.in_ok-keep.ensures.opened (c.in_ok-looked.ensures.clean clean) in
    let kept = found_again centre_stores centre_lawful image rows (state g.S.Store c.args.conn).now holds is found c.args.setup _ opened in
    (c.in_ok-looked.ensures.found clean _ (with_setup _ _ _ _ c.in_ok-keep.ensures.setup kept)).0
