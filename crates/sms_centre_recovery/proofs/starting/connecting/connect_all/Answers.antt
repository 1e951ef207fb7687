use Rattle.std.proofs.Common.{◌≡◌, ℕ, List, [], Bool, true, false, take, refl, subst, arith}
use Rattle.std.proofs.lemmas.List.{take_all}
use Rattle.sms_centre_queue.specs.queues.Representing.{DraftRepresents}
use Rattle.sms_centre_recovery.specs.starting.Starting.{links_of}
use Rattle.sms_centre_recovery.proofs.starting.LinksNew.{next_link}
use Rattle.sms_centre_rows.specs.declared.waiting.handset_link.HandsetLink.{HandsetLink}
use Rattle.sms_centre_recovery.proofs.starting.connecting.connect_all.Goals as goal

none_yet : (up : Bool) → [] ≡ links_of up []
none_yet true = refl
none_yet false = refl

pub loop-handset-init : goal.loop-handset-init
loop-handset-init c = λ g waiting represents.
    subst (λ (ls : List HandsetLink). DraftRepresents g (record { all = ls; frames = []; read = [] }) waiting c.args.queues.now) (none_yet c.args.are_up) represents

pub loop-handset-preserved : goal.loop-handset-preserved
loop-handset-preserved c = λ g waiting represents.
    let handsets = c.args.handsets.now in
    let i = c.loop-handset.handset-index in
    subst (λ (ls : List HandsetLink). DraftRepresents g (record { all = ls; frames = []; read = [] }) waiting c.connect.new.queues)
    (next_link c.args.are_up i handsets c.handset-item.result c.requires (omega (arith, c.loop-handset-test.true)) c.handset-item.is)
    (c.in_ok-connect.ensures g (record { all = links_of c.args.are_up (take i handsets); frames = []; read = [] }) waiting (c.loop-handset.invariant g waiting represents))

pub returns : goal.returns
returns c = λ g waiting represents.
    subst (λ (ns : List (List ℕ)). DraftRepresents g (record { all = links_of c.args.are_up ns; frames = []; read = [] }) waiting c.loop-handset.queues)
    (take_all c.loop-handset.handset-index c.args.handsets.now (omega (arith, c.loop-handset-test.false))) (c.loop-handset.invariant g waiting represents)
