use Rattle.std.proofs.Common.{◌≡◌, ◌⊎◌, inl, inr, ◌+◌, ◌*◌, ℕ, List, ◌∙◌, ⊎_elim, ap, get_or, sym, subst}
use Rattle.sms_base.proofs.Lists.{among_end}
use Rattle.sms_base.specs.Among.{Among}
use Rattle.sms_rows.specs.expiry.Deadlines.{IsCollected, IsPastIn, IsUnder}
use Rattle.sms_rows.proofs.expiry.Heaps.{among_before, among_last_as, both_ok, on_ok, under_cases}
use Rattle.sms_rows.proofs.expiry.deadlines.+collect.Goals as goal

pub returns-clause-earlier : goal.returns-clause-earlier
returns-clause-earlier t c =
    on_ok ((n : ℕ) → Among n c.collect.new.ids.items → Among n c.collect-2.new.ids.items) ((n : ℕ) → Among n c.args.ids.now.items → Among n c.collect-2.new.ids.items) c.collect-2.result
    (λ later n m. later n (c.in_ok-collect.ensures.earlier n
    (subst (λ (l : List ℕ). Among n l) (sym c.in_ok-push.ensures.items) (among_before n c.in-Some.id c.args.ids.now.items m))))
    c.collect-2.ensures.earlier

pub returns-clause-found : goal.returns-clause-found
returns-clause-found t c =
    let id = c.in-Some.id in
    on_ok (((n : ℕ) → Among n c.collect.new.ids.items → Among n c.collect-2.new.ids.items) × IsCollected c.args.now c.args.heap.now (2 * c.args.place + 2) c.collect-2.new.ids.items) (IsCollected c.args.now c.args.heap.now c.args.place c.collect-2.new.ids.items) c.collect-2.result
    (λ later k d u within due. ⊎_elim
    (λ (e : k ≡ c.args.place).
    later.0 (get_or c.args.heap.now k d).0.id (c.in_ok-collect.ensures.earlier (get_or c.args.heap.now k d).0.id
    (subst (λ (l : List ℕ). Among (get_or c.args.heap.now k d).0.id l) (sym c.in_ok-push.ensures.items)
    (among_last_as (get_or c.args.heap.now k d).0.id id c.args.ids.now.items (ap (λ (p : ℕ). (get_or c.args.heap.now p d).0.id) e ∙ c.in-Some.ensures.own d)))))
    (λ (r : IsUnder (2 * c.args.place + 1) k ⊎ IsUnder (2 * c.args.place + 2) k). ⊎_elim
    (λ (l : IsUnder (2 * c.args.place + 1) k). later.0 (get_or c.args.heap.now k d).0.id (c.in_ok-collect.ensures.found k d l within due))
    (λ (l : IsUnder (2 * c.args.place + 2) k). later.1 k d l within due)
    r)
    (under_cases c.args.place k u))
    (both_ok ((n : ℕ) → Among n c.collect.new.ids.items → Among n c.collect-2.new.ids.items) (IsCollected c.args.now c.args.heap.now (2 * c.args.place + 2) c.collect-2.new.ids.items) c.collect-2.result c.collect-2.ensures.earlier c.collect-2.ensures.found)

pub returns-clause-only : goal.returns-clause-only
returns-clause-only t c =
    let id = c.in-Some.id in
    on_ok ((n : ℕ) → Among n c.collect-2.new.ids.items → Among n c.collect.new.ids.items ⊎ IsPastIn c.args.now c.args.heap.now n) ((n : ℕ) → Among n c.collect-2.new.ids.items → Among n c.args.ids.now.items ⊎ IsPastIn c.args.now c.args.heap.now n) c.collect-2.result
    (λ last n m. ⊎_elim
    (λ (k : Among n c.collect.new.ids.items). ⊎_elim
    (λ (l : Among n c.push.new.self.items). ⊎_elim
    (λ (o : Among n c.args.ids.now.items). inl o)
    (λ (e : n ≡ id). inr (subst (λ (x : ℕ). IsPastIn c.args.now c.args.heap.now x) (sym e) c.in-Some.ensures.due))
    (among_end n id c.args.ids.now.items (subst (λ (x : List ℕ). Among n x) c.in_ok-push.ensures.items l)))
    (λ (f : IsPastIn c.args.now c.args.heap.now n). inr f)
    (c.in_ok-collect.ensures.only n k))
    (λ (f : IsPastIn c.args.now c.args.heap.now n). inr f)
    (last n m))
    c.collect-2.ensures.only
