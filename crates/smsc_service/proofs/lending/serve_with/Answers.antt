use Rattle.std.proofs.Common.{◌∙◌, ap}
use Rattle.smsc_service.specs.Sparing.{keep_of}
use Rattle.smsc_service.proofs.lending.serve_with.Goals as goal

pub returns : goal.returns
returns g c = record {
  given = (
    c.in_ok-service.service,
    c.lend_service.ensures.0,
    c.in_ok-service.ensures.served,
    c.in_ok-service.ensures.before,
    c.lend_service.ensures.1,
    c.lend_service.ensures.2,
    c.lend_service.ensures.3,
    ap keep_of c.in_ok-service.ensures.errands ∙ c.new-errands.ensures.keep,
  );
}
