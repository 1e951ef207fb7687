use Rattle.sms_centre_spec.specs.Draft.{messages_in, reports_in}
use Rattle.sms_centre_draft.proofs.walks.DropsFound.{drops_begin, drops_end, drops_on}
use Rattle.sms_centre_draft.proofs.walks.laws.old_reports_are_dropped_where_found.Goals as goal

pub returns : goal.returns
returns c = record {
  begins = drops_begin;
  next = λ s kept first e represents is.
      drops_on s first e represents.keys represents.alone (c.the_open_reports_find_old_ones.ensures.next first s.moment (messages_in s) kept (reports_in s) s.reports e represents is);
  none = λ s kept first represents is.
      drops_end s first (c.the_open_reports_find_old_ones.ensures.none first s.moment (messages_in s) kept (reports_in s) s.reports represents is);
}
