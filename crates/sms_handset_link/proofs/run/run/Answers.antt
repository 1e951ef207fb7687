use Rattle.std.proofs.Common.{List, ℕ, option_map, subst}
use Rattle.std.specs.Io.KnownBytes.{Appends}
use Rattle.std.specs.Str.{encode_utf8_all}
use Rattle.sms_link.specs.framing.Framing.{framed}
use Rattle.sms_handset_link.specs.Ends.{greeting, with_secret}
use Rattle.sms_handset_link.proofs.Courses.{on_ok}
use Rattle.sms_handset_link.proofs.run.run.Goals as goal

pub returns : goal.returns
returns g c =
    let greeted = g.W.Write.contents c.greet.new.link in
    let secret = option_map (λ s. s.now) c.args.secret in
    let number : Appends (g.W.Write.contents c.args.link_out.now) greeted (framed (greeting c.args.number.now secret)) =
    subst (λ (d : List ℕ). Appends (g.W.Write.contents c.args.link_out.now) greeted (framed (with_secret secret (encode_utf8_all d)))) c.as_slice.ensures c.in_ok-greet.ensures in
    let asked = c.in_ok-act_all.ensures in
    on_ok c.attend.result c.attend.ensures (λ a. record {
      greeted = greeted;
      number_so = number;
      timed = asked.0;
      asked_so = asked.1;
      between = _;
      sent = _;
      asked_met = asked.2;
      answered_so = asked.3;
      rest = a.0;
      attended = a.1;
    })
