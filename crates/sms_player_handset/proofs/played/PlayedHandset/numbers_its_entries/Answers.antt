use Rattle.std.proofs.Common.{◌≡◌, ℕ, ◌≤◌, ◌^◌, Err, arith, subst}
use Rattle.sms_handset.specs.HandsetEvent.{deleted, discarded}
use Rattle.sms_handset.specs.declared.refusal.Refusal.TheVariants.{NoEntry}
use Rattle.sms_play.specs.PlayState.{Party}
use Rattle.sms_player_handset.proofs.Beyond.{none_to_delete, none_to_discard}
use Rattle.sms_player_handset.proofs.played.PlayedHandset.numbers_its_entries.Goals as goal

pub returns-clause-delete : goal.returns-clause-delete
returns-clause-delete c =
    subst (λ (p : Party). (entry : ℕ) → 2 ^ 32 ≤ entry → deleted entry p.core ≡ Err NoEntry) c.self.view_is
    (λ entry far. none_to_delete entry c.self.inside.stored.core c.next_entry-next.ensures.sound (omega (arith, far, c.next_entry-next.ensures.number)))

pub returns-clause-discard : goal.returns-clause-discard
returns-clause-discard c =
    subst (λ (p : Party). (entry : ℕ) → 2 ^ 32 ≤ entry → discarded entry p.core ≡ Err NoEntry) c.self.view_is
    (λ entry far. none_to_discard entry c.self.inside.stored.core c.next_entry-next.ensures.sound (omega (arith, far, c.next_entry-next.ensures.number)))
