use Rattle.std.proofs.Common.{ap, sym, ◌∙◌}
use Rattle.sms_centre_spec.specs.declared.rows.Changes.{Changes}
use Rattle.sms_centre_group.specs.Grouping.{held_in}
use Rattle.sms_centre_group.specs.Newest.{put_octets}
use Rattle.sms_centre_group.proofs.Reading.{body_ends, put_so}
use Rattle.sms_centre_group.proofs.group_keep.GroupKeep.read_put.Goals as goal

pub returns-in-Some-clause-outcome : goal.returns-in-Some-clause-outcome
returns-in-Some-clause-outcome g c = λ rows honest holds.
    (put_so g.K.BodyKeep.body_of rows.0 rows.1 (held_in c.args.self.now) c.args.key holds.1 c.in-Some.octets (sym c.in-Some.is ∙ c.requires), holds)

pub returns-in-None-clause-outcome : goal.returns-in-None-clause-outcome
returns-in-None-clause-outcome g c = λ rows honest holds.
    let group = c.committed_body.new.self in
    let same = c.committed_body.ensures.held in
    body_ends g.K.BodyKeep.body_of rows.0 rows.1 (held_in group) c.args.key (holds.1 ∙ sym same) (g.K.RowStore.state group.store) group.refusals
    ((sym c.in-None.is ∙ c.requires) ∙ ap (λ (h : Changes). put_octets h c.args.key) (sym same)) c.committed_body.result (c.committed_body.ensures.outcome rows.0 honest holds.0)
