-- What a connection heard of messages that ended.
use Rattle.std.proofs.Common.{◌≡◌, ◌==◌, ◌⊎◌, inl, inr, ⊎_elim, ℕ, Bool, true, false, List, [], ◌∷◌, ◌++◌, if◌then◌else◌, refl, sym, ap, append_assoc, subst, ◌∙◌}
use Rattle.std.proofs.lemmas.Bool.{eqb-true}
use Rattle.sms_base.proofs.Lists.{among_front, among_parts}
use Rattle.sms_base.specs.Among.{Among}
use Rattle.sms_centre_spec.specs.declared.jobs.job.Job.{Job}
use Rattle.sms_centre_spec.specs.declared.jobs.reply.Reply.{Reply}
use Rattle.sms_centre_spec.specs.declared.jobs.reply.Reply.TheVariants.{Receipt}
use Rattle.sms_keeper.specs.declared.machine.Item.{Item}
use Rattle.sms_keeper.specs.declared.outs.Out.{Out}
use Rattle.sms_keeper.specs.History.{answers_in, outs_to}
use Rattle.sms_receipt.specs.declared.final_message.Final.{Final}
use Rattle.smsc_service.specs.Serving.{Serving}
use Rattle.smsc_server.specs.RunPromises.{KeepsPromises, WasReported}

-- a reply to a seat is an out for it
out_is : (n : ℕ) (r : Reply) (o : Out Reply) → n ≡ o.seat → r ≡ o.out → record { seat = n; out = r } ≡ o
out_is n r o e f = ap (λ (k : ℕ). record { seat = k; out = r }) e ∙ ap (λ (x : Reply). record { seat = o.seat; out = x }) f

here_or : (n : ℕ) (r : Reply) (o : Out Reply) (os : List (Out Reply)) (b : Bool) → (n == o.seat) ≡ b
    → (Among r (outs_to n os) → Among (record { seat = n; out = r }) os) → Among r (if b then o.out ∷ outs_to n os else outs_to n os)
    → Among (record { seat = n; out = r }) (o ∷ os)
here_or n r o os true e later (inl is) = inl (out_is n r o (eqb-true n o.seat e) is)
here_or n r o os true e later (inr rest) = inr (later rest)
here_or n r o os false e later rest = inr (later rest)

out_of : (n : ℕ) (r : Reply) (os : List (Out Reply)) → Among r (outs_to n os) → Among (record { seat = n; out = r }) os
out_of n r [] there = there
out_of n r (o ∷ os) there = here_or n r o os (n == o.seat) refl (λ rest. out_of n r os rest) there

abbrev IsOutOf : ℕ → Reply → List (Item Job Reply) → Type 0
IsOutOf n r items =
    (one : List (Item Job Reply)) × (e : Item Job Reply) × (other : List (Item Job Reply)) × (items ≡ one ++ e ∷ other) × Among (record { seat = n; out = r }) e.outs

item_of : (n : ℕ) (r : Reply) (items : List (Item Job Reply)) → Among r (answers_in n items) → IsOutOf n r items
item_of n r [] there = absurd there
item_of n r (e ∷ items) there =
    ⊎_elim (λ h. ([], e, items, refl, out_of n r e.outs h))
    (λ h. let x = item_of n r items h in (e ∷ x.0, x.1, x.2, ap (λ (l : List (Item Job Reply)). e ∷ l) x.3, x.4))
    (among_parts r (outs_to n e.outs) (answers_in n items) there)

pub heard_ends : (n : ℕ) (first last : Serving) (items : List (Item Job Reply)) (heard untaken : List Reply) → KeepsPromises first items last
    → answers_in n items ≡ heard ++ untaken → (end : Final) → Among (Receipt end) heard → WasReported first items end
heard_ends n first last items heard untaken keeps e end there =
    let x = item_of n (Receipt end) items (subst (λ (l : List Reply). Among (Receipt end) l) (sym e) (among_front (Receipt end) heard untaken there)) in
    (x.0 ++ x.1 ∷ [], x.2, x.3 ∙ sym (append_assoc x.0 (x.1 ∷ []) x.2), keeps.receipts x.0 x.2 x.1 n end x.3 x.4)
