use Rattle.std.proofs.Common.{◌≡◌, List, ◌++◌, Bool, true, false, sym, ◌∙◌, ap, subst}
use Rattle.std.specs.Prelude.{◌&&◌, ◌||◌}
use Rattle.std.specs.List.{list_any}
use Rattle.sms_rows.specs.declared.table.change.Change.{Change}
use Rattle.sms_centre_rows.specs.declared.messages.bar.BarRow.{BarRow}
use Rattle.sms_centre_rows.specs.declared.messages.claim.Claim.{Claim}
use Rattle.sms_centre_rows.specs.messages.Bars.{is_barred}
use Rattle.sms_centre_rows.specs.messages.SplitReferences.{is_among, own_bars}
use Rattle.sms_centre.specs.Barring.{puts_for, puts_of}
use Rattle.sms_centre.specs.state.CentreState.{CentreStateOf, Represents as StateRepresents}
use Rattle.sms_centre.proofs.Barred.{barred_both, put_for}
use Rattle.sms_centre.proofs.barring.is_kept.Goals as goal

pub returns-then-is_stood_for : goal.returns-then-is_stood_for
returns-then-is_stood_for c = λ core stands.
    let s : CentreStateOf = record { setup = c.state.inside.setup; moment = c.state.inside.moment; messages = c.state.inside.messages; reference_index = c.state.inside.reference_index; queues = c.state.inside.queues; reports = c.state.inside.reports; log = c.state.inside.log; sessions = c.state.inside.sessions } in
    let was : StateRepresents core s = subst (λ (x : CentreStateOf). StateRepresents core x) (sym c.state.view_is) stands in
    let x : Claim = c.args.claim.now in
    let new : List BarRow = puts_of c.args.bars.now.changes.items in
    let stood : is_barred x core.rows.bars ≡ true = sym (c.is_stood_for.ensures core.rows.bars core.rows.messages core.rows.parts was.reference_index) ∙ c.if-is_stood_for.true in
    sym (barred_both x core.rows.bars new ∙ ap (λ (b : Bool). b || (x.is_own && is_among x.reference (own_bars x.source x.handset new))) stood)

pub returns-then-not-claim : goal.returns-then-not-claim
returns-then-not-claim c = λ core stands.
    let x : Claim = c.args.claim.now in
    sym (ap (λ (b : Bool). b && is_among x.reference (own_bars x.source x.handset (core.rows.bars ++ puts_of c.args.bars.now.changes.items))) c.if-not-claim.true)

pub returns : goal.returns
returns c = λ core stands.
    let s : CentreStateOf = record { setup = c.state.inside.setup; moment = c.state.inside.moment; messages = c.state.inside.messages; reference_index = c.state.inside.reference_index; queues = c.state.inside.queues; reports = c.state.inside.reports; log = c.state.inside.log; sessions = c.state.inside.sessions } in
    let was : StateRepresents core s = subst (λ (x : CentreStateOf). StateRepresents core x) (sym c.state.view_is) stands in
    let x : Claim = c.args.claim.now in
    let new : List BarRow = puts_of c.args.bars.now.changes.items in
    let free : is_barred x core.rows.bars ≡ false = sym (c.is_stood_for.ensures core.rows.bars core.rows.messages core.rows.parts was.reference_index) ∙ c.if-is_stood_for.false in
    c.is_put.ensures
    ∙ ap (λ (l : List (Change BarRow)). list_any (puts_for x) l) c.as_slice.ensures.value
    ∙ put_for x c.args.bars.now.changes.items
    ∙ sym (barred_both x core.rows.bars new
    ∙ ap (λ (b : Bool). b || (x.is_own && is_among x.reference (own_bars x.source x.handset new))) free
    ∙ ap (λ (b : Bool). b && is_among x.reference (own_bars x.source x.handset new)) c.if-not-claim.false)
