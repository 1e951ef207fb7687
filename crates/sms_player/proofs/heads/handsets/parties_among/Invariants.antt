use Rattle.std.proofs.Common.{◌≡◌, ◌++◌, drop, true}
use Rattle.sms_play.specs.Setups.{are_handsets, parties_of}
use Rattle.sms_player.proofs.heads.handsets.parties_among.Given as goal

abbrev pub invariant-loop-handset : goal.invariant-loop-handset
invariant-loop-handset l = record {
  made : l.parties.items ++ parties_of l.setup (drop l.handset-index l.handsets) ≡ parties_of l.setup l.handsets;
  good : are_handsets (drop l.handset-index l.handsets) ≡ true;
}
