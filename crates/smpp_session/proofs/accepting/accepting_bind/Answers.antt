use Rattle.smpp_session.proofs.BindAnswers.{laid_by}
use Rattle.smpp_session.proofs.accepting.accepting_bind.Goals as goal

pub returns : goal.returns
returns c =
    laid_by c.args.kind c.args.version c.args.number c.length_for.result c.resp_octet.result c.four_octets.result c.in_ok-octets.octets c.append.new.self c.append-2.new.self c.put_parameter.new.octets
    c.length_for.ensures c.resp_octet.ensures c.four_octets.ensures c.in_ok-octets.ensures c.in_ok-append.ensures.ok c.in_ok-append-2.ensures.ok c.in_ok-put_parameter.ensures
