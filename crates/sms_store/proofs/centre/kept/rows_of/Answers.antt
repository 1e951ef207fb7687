use Rattle.sms_store.proofs.centre.kept.rows_of.Goals as goal

pub returns : goal.returns
returns c = λ i. record {
  messages = c.from_vec.ensures i;
  parts = c.from_vec-2.ensures i;
  references = c.from_vec-3.ensures i;
  handsets = c.from_vec-4.ensures i;
  reports = c.from_vec-5.ensures i;
  priorities = c.from_vec-6.ensures i;
  bars = c.from_vec-7.ensures i;
  setup = c.args.setup;
}
