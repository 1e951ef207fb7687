use Rattle.std.proofs.Common.{List, refl, sym, subst}
use Rattle.sms_play.specs.PlayState.{Party}
use Rattle.sms_player.specs.playing.Places.{IsFirstAt}
use Rattle.sms_player.proofs.playing.Handing.{at_place, fits_down, fits_up, goes_down, goes_up, no_handset}
use Rattle.sms_script.specs.declared.event.Act.TheVariants.{Deliver}
use Rattle.sms_player.proofs.playing.Playing.hand_over.Goals as goal

pub returns-in_default-clause-leads : goal.returns-in_default-clause-leads
returns-in_default-clause-leads c = λ play f number shown i is.
    no_handset c.args.stop c.args.event number play c.args.self.now shown c.args.handed.now f i is (sym c.in_default.ensures.place)

pub returns-in-Up-clause-leads : goal.returns-in-Up-clause-leads
returns-in-Up-clause-leads c = λ play f number shown i is.
    let at = at_place c.args.stop c.args.event number play c.args.self.now shown c.args.handed.now f i is c.in-Some.place (sym c.in-Some.ensures.place) in
    goes_up c.args.stop c.args.event number play c.args.self.now shown c.args.handed.now f i is c.hand_up.result c.or_no_memory.result c.hand_up.new.self at.party at.number_is c.in-Up.is c.or_no_memory.ensures
    (c.hand_up.ensures.represents play at.party (Deliver number) shown at.first refl)

pub returns-in-Down-clause-leads : goal.returns-in-Down-clause-leads
returns-in-Down-clause-leads c = λ play f number shown i is.
    let at = at_place c.args.stop c.args.event number play c.args.self.now shown c.args.handed.now f i is c.in-Some.place (sym c.in-Some.ensures.place) in
    goes_down c.args.stop c.args.event number play c.args.self.now shown c.args.handed.now f i is c.hand_down.result c.or_no_memory-in-Down.result c.hand_down.new.self at.party at.found c.in-Down.is c.or_no_memory-in-Down.ensures
    (c.hand_down.ensures play at.party (Deliver number) shown at.first refl)

pub returns-in-Up-clause-fit : goal.returns-in-Up-clause-fit
returns-in-Up-clause-fit c = λ play f shown i is.
    let at = at_place c.args.stop c.args.event 0 play c.args.self.now shown c.args.handed.now f i is c.in-Some.place (sym c.in-Some.ensures.place) in
    fits_up c.args.stop c.args.event 0 play c.args.self.now shown c.args.handed.now f i is c.or_no_memory.result at.party at.number_is c.in-Up.is
    (c.hand_up.ensures.event at.party (subst (λ (ps : List Party). IsFirstAt c.in-Some.place at.party ps) (sym shown.parties) at.first))

pub returns-in-Down-clause-fit : goal.returns-in-Down-clause-fit
returns-in-Down-clause-fit c = λ play f shown i is.
    fits_down c.args.stop c.args.event 0 play c.args.self.now shown c.args.handed.now f i is c.or_no_memory-in-Down.result c.in-Down.is
