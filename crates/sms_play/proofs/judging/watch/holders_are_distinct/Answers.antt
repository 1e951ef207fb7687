use Rattle.std.proofs.Common.{refl}
use Rattle.sms_base.specs.declared.holder.Holder.TheVariants.{Part, Report, Entry, Memory}
use Rattle.sms_play.proofs.judging.watch.holders_are_distinct.Goals as goal

pub returns : goal.returns
returns c (Part a m) (Part b n) = refl
returns c (Part a m) (Report b) = refl
returns c (Part a m) (Entry n) = refl
returns c (Part a m) (Memory n) = refl
returns c (Report a) (Part b n) = refl
returns c (Report a) (Report b) = refl
returns c (Report a) (Entry n) = refl
returns c (Report a) (Memory n) = refl
returns c (Entry m) (Part b n) = refl
returns c (Entry m) (Report b) = refl
returns c (Entry m) (Entry n) = refl
returns c (Entry m) (Memory n) = refl
returns c (Memory m) (Part b n) = refl
returns c (Memory m) (Report b) = refl
returns c (Memory m) (Entry n) = refl
returns c (Memory m) (Memory n) = refl
