use Rattle.std.proofs.Common.{sym, ◌∙◌}
use Rattle.std.proofs.lemmas.Bool.{false≢true}
use Rattle.sms_store.proofs.handset.kept.rows_of.Goals as goal

pub returns-clause-found : goal.returns-clause-found
returns-clause-found c = (
  sym c.deref.ensures.value ∙ c.in_ok-counters.ensures.found,
  λ i. record {
    entries = c.from_vec.ensures i;
    last = c.from_vec-2.ensures i;
    outbox = c.from_vec-3.ensures i;
    marks = c.from_vec-4.ensures i;
    counters = c.in_ok-counters.counters;
    setup = c.args.setup;
  },
)

pub returns-in_err-counters-clause-always : goal.returns-in_err-counters-clause-always
returns-in_err-counters-clause-always c row one = absurd (false≢true (c.in_err-counters.ensures.always row (c.deref.ensures.value ∙ one)))
