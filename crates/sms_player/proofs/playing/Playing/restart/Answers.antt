use Rattle.std.proofs.Common.{◌≡◌, ◌∙◌, ap, arith, List, ℕ, Option, None, Some, sym, subst}
use Rattle.sms_play.specs.PlayState.{Party}
use Rattle.sms_play.specs.PlayedEvent.{centre_restarted, handset_restarts, party_restarted, restart}
use Rattle.sms_player.specs.playing.Places.{IsFirstAt, place_from}
use Rattle.sms_player.proofs.playing.Outcomes.{or_none}
use Rattle.sms_player.proofs.playing.Placed.{none_there, there}
use Rattle.sms_script.specs.declared.event.EventSide.{EventSide}
use Rattle.sms_player.proofs.playing.Playing.restart.Goals as goal

pub returns-in-Centre : goal.returns-in-Centre
returns-in-Centre c = λ play shown.
    or_none c.restart_centre.result c.or_no_memory.result c.args.event c.restart_centre.new.self (centre_restarted play) (restart c.args.event c.args.side.now play) c.or_no_memory.ensures
    (ap (λ (s : EventSide). restart c.args.event s play) c.in-Centre.is) (c.restart_centre.ensures play shown)

pub returns-in-Some : goal.returns-in-Some
returns-in-Some c = λ play shown.
    let is : place_from 0 c.in-Handset.number play.parties ≡ Some c.in-Some.place =
    sym (c.in-Some.ensures.place ∙ ap (λ (n : List ℕ). place_from 0 n c.args.self.now.parties) c.as_slice.ensures ∙ ap (λ (ps : List Party). place_from 0 c.in-Handset.number ps) shown.parties) in
    let r = there 0 c.in-Some.place c.in-Handset.number play.parties is in
    let at : r.behind ≡ c.in-Some.place = omega (arith, r.place_is) in
    or_none c.restart_handset.result c.or_no_memory-in-Some.result c.args.event c.restart_handset.new.self (party_restarted r.party play) (restart c.args.event c.args.side.now play) c.or_no_memory-in-Some.ensures
    (ap (λ (s : EventSide). restart c.args.event s play) c.in-Handset.is ∙ ap (λ (o : Option Party). handset_restarts c.args.event o play) r.found)
    (c.restart_handset.ensures play r.party shown (subst (λ (n : ℕ). IsFirstAt n r.party play.parties) at r.first))

pub returns-in-None : goal.returns-in-None
returns-in-None c = λ play shown.
    let none : place_from 0 c.in-Handset.number play.parties ≡ None =
    sym (c.in-None.ensures.place ∙ ap (λ (n : List ℕ). place_from 0 n c.args.self.now.parties) c.as_slice.ensures ∙ ap (λ (ps : List Party). place_from 0 c.in-Handset.number ps) shown.parties) in
    ap (λ (s : EventSide). restart c.args.event s play) c.in-Handset.is ∙ ap (λ (o : Option Party). handset_restarts c.args.event o play) (none_there 0 c.in-Handset.number play.parties none)
