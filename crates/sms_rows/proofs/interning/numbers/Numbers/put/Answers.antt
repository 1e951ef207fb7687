use Rattle.std.proofs.Common.{List, ℕ, map, sym, subst}
use Rattle.indexmap.specs.IndexSet.{spare}
use Rattle.sms_rows.specs.declared.interning.number.Number.{Number}
use Rattle.sms_rows.specs.interning.Interning.{Interned, InternedOf, IsKnownOrLast, Keeps}
use Rattle.sms_rows.specs.interning.Numbers.{digits_in}
use Rattle.sms_rows.proofs.interning.Places.{added_once, keeps_inserted, own_place}
use Rattle.sms_rows.proofs.interning.numbers.Numbers.put.Goals as goal

pub returns-clause-ok : goal.returns-clause-ok
returns-clause-ok c =
    subst (λ (v : InternedOf (List ℕ)). Interned v c.args.digits c.in_ok-place.place (record { values = map digits_in c.insert_full.new.self.keys; room = spare c.insert_full.new.self })) c.self.view_is
    (record {
      own = own_place (record { digits = c.args.digits }) c.insert_full.new.self.keys c.in_ok-place.place c.in_ok-place.ensures.stored.0 c.in_ok-place.ensures.stored.1 c.in_ok-place.ensures.stored.2;
      others = subst (λ (l : List Number). Keeps (map digits_in c.self.inside.set.keys) (map digits_in l)) (sym c.in_ok-place.ensures.keys) (keeps_inserted (record { digits = c.args.digits }) c.self.inside.set.keys);
      only = subst (λ (l : List Number). IsKnownOrLast (map digits_in c.self.inside.set.keys) c.args.digits (map digits_in l)) (sym c.in_ok-place.ensures.keys) (added_once (record { digits = c.args.digits }) c.self.inside.set.keys);
      room = c.insert_full.ensures.spare;
    })
