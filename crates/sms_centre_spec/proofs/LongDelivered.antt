-- A message of two parts is delivered when both are acknowledged, the second before the first.
use Rattle.std.proofs.Common.{◌≡◌, ◌+◌, [], ◌∷◌, Some, None, refl}
use Rattle.std.specs.Prelude.{codes, replicate}
use Rattle.sms_base.specs.declared.final_state.FinalState.TheVariants.{Delivered}
use Rattle.sms_centre_spec.specs.Draft.{Draft, core_of}
use Rattle.sms_centre_spec.specs.CentreEvent.{submit_received, ticked}
use Rattle.sms_centre_spec.proofs.Everything.{everything}
use Rattle.sms_centre_spec.proofs.Worked.{hex, t0, handset_b, begun, sm, comes, sent, states, told}

abbrev pub one : Draft
one = submit_received 0 (sm handset_b 0 0 1 [] (replicate 161 97) 0) (begun (handset_b ∷ []))

abbrev pub two : Draft
two = comes handset_b (hex (codes "89010404000129")) (core_of (comes handset_b (hex (codes "8904")) (core_of one)))

abbrev pub three : Draft
three = comes handset_b (hex (codes "990106020141020000")) (core_of (comes handset_b (hex (codes "9904")) (core_of two)))

second : sent three ≡ hex (codes "1904") ∷ []
unfolding everything
second = refl

not_yet : states three ≡ None ∷ []
unfolding everything
not_yet = refl

enroute : told three ≡ []
unfolding everything
enroute = refl

abbrev pub four : Draft
four = comes handset_b (hex (codes "A90106020041020000")) (core_of (comes handset_b (hex (codes "A904")) (core_of (ticked (t0 + 60) (core_of three)))))

both : states four ≡ Some Delivered ∷ []
unfolding everything
both = refl

told_once : told four ≡ 1 ∷ []
unfolding everything
told_once = refl

abbrev pub doubled : Draft
doubled = comes handset_b (hex (codes "A90106020041020000")) (core_of four)

nothing_new : told doubled ≡ 1 ∷ []
unfolding everything
nothing_new = refl

acknowledged : sent doubled ≡ hex (codes "2904") ∷ []
unfolding everything
acknowledged = refl
