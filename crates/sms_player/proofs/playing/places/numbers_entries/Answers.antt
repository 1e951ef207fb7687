use Rattle.std.proofs.Common.{◌≡◌, ℕ, ◌≤◌, ◌^◌, Err, subst}
use Rattle.sms_handset.specs.HandsetEvent.{deleted, discarded}
use Rattle.sms_handset.specs.declared.refusal.Refusal.TheVariants.{NoEntry}
use Rattle.sms_play.specs.PlayState.{Party}
use Rattle.sms_player.proofs.playing.Placed.{first_is}
use Rattle.sms_player.proofs.playing.places.numbers_entries.Goals as goal

pub returns-clause-delete : goal.returns-clause-delete
returns-clause-delete c = λ party first.
    subst (λ (p : Party). (entry : ℕ) → 2 ^ 32 ≤ entry → deleted entry p.core ≡ Err NoEntry) (first_is c.args.place party c.index-parties-place.result c.args.parties.now first c.index-parties-place.is) c.numbers_its_entries.ensures.delete

pub returns-clause-discard : goal.returns-clause-discard
returns-clause-discard c = λ party first.
    subst (λ (p : Party). (entry : ℕ) → 2 ^ 32 ≤ entry → discarded entry p.core ≡ Err NoEntry) (first_is c.args.place party c.index-parties-place.result c.args.parties.now first c.index-parties-place.is) c.numbers_its_entries.ensures.discard
