use Rattle.sms_handset.proofs.PlansStore.{event_stores}
use Rattle.sms_handset.proofs.SoundEvents.{event_sound}
use Rattle.sms_handset.proofs.handset.Handset.plan.Goals as goal

pub returns : goal.returns
returns c =
    let e = c.plan_of.ensures in
    record {
      frame = e.frame;
      tick = e.tick;
      write = e.write;
      delete = e.delete;
      discard = e.discard;
      fits = e.fits;
      stored = event_stores c.args.event.now c.plan_of.result c.args.self.now e.frame e.tick e.write e.delete e.discard;
      sound = event_sound c.args.event.now c.plan_of.result c.args.self.now e.frame e.tick e.write e.delete e.discard;
    }
