use Rattle.std.proofs.Common.{◌<◌, false, Some, replicate, ap, sym, subst, ◌∙◌}
use Rattle.std.proofs.lemmas.List.{get_or-replicate, length-replicate}
use Rattle.std.proofs.lemmas.Option.{slice_get-get_or}
use Rattle.sms_schedule.proofs.waiting.held.none_held.Goals as goal

pub returns : goal.returns
returns c r low =
    slice_get-get_or (replicate 256 false) r false (subst (λ n. r < n) (sym (length-replicate 256 false)) low)
    ∙ ap (λ b. Some b) (get_or-replicate 256 r false false low)
