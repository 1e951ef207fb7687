use Rattle.std.proofs.Common.{rules, ◌++◌, ◌∷◌, [], Some, None}
use Rattle.sms_link.specs.framing.Framing.{front_of}
use Rattle.smsc_endpoint.specs.LinkCalls.{CutsFront}
use Rattle.smsc_endpoint.proofs.LinkSteps.{all_read, cut_of, frame_is, none_read, one_read, shorter}
use Rattle.smsc_endpoint.proofs.link_endpoint.LinkEndpoint.read_frames.Goals as goal

pub reading-init : goal.reading-init
reading-init c = ([], none_read c.args.self.now)

pub reading-preserved : goal.reading-preserved
reading-preserved c =
    let l = c.reading in
    let cut : CutsFront (front_of l.self.unread) l.self (Some c.in-Some.octets) c.next_frame.new.self = search rules in
    let k = cut_of l.self c.next_frame.new.self c.in-Some.octets cut in
    let is = frame_is l.self.unread c.in-Some.octets c.front_is_the_frame.ensures.found k.is_front in (
      l.invariant.0 ++ c.in-Some.octets ∷ [],
      one_read c.args.self.now l.self c.next_frame.new.self c.put_frame.new.self l.invariant.0 c.in-Some.octets l.invariant.1 k is c.in_ok-put_frame.ensures,
    )

pub reading-smaller : goal.reading-smaller
reading-smaller c =
    let l = c.reading in
    let cut : CutsFront (front_of l.self.unread) l.self (Some c.in-Some.octets) c.next_frame.new.self = search rules in
    shorter l.self c.next_frame.new.self c.put_frame.new.self c.in-Some.octets (cut_of l.self c.next_frame.new.self c.in-Some.octets cut) c.in_ok-put_frame.ensures

pub returns : goal.returns
returns c =
    let l = c.reading in
    let cut : CutsFront (front_of l.self.unread) l.self None c.next_frame.new.self = search rules in
    all_read c.args.self.now l.self c.next_frame.new.self l.invariant.0 c.front_is_the_frame.ensures.only l.invariant.1 cut
