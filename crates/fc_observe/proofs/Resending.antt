-- Retransmissions of an outstanding notification, and their timeouts.
use Rattle.std.proofs.Common.{◌≡◌, ℕ, ◌+◌, ◌<◌, List, [], ◌∷◌, length, Bool, true, false, Option, Some, None, refl, ap, ◌∙◌, arith}
use Rattle.std.specs.Prelude.{nat_lt, if◌then◌else◌}
use Rattle.std.proofs.lemmas.Bool.{false_from_ne_true, ltb-true, lt-ltb}
use Rattle.arrayvec.specs.ArrayVec.{ArrayVec}
use Rattle.coap_msg.specs.declared.types.Emission.{Emission}
use Rattle.fc_observe.specs.declared.entry.Entry.{Entry}
use Rattle.fc_observe.specs.declared.entry.Phase.{Phase}
use Rattle.fc_observe.specs.declared.entry.Phase.TheVariants.{Outstanding}
use Rattle.fc_observe.specs.Entries.{retransmission, retransmission_in, retransmitted_phase, timed_out, timed_out_by}
use Rattle.fc_observe.specs.Laws.{IsSentAt, resent_entry}

-- the time at which a notification sent at `s` was last sent, after these retransmissions
abbrev latest : ℕ → List ℕ → ℕ
latest s [] = s
latest s (now ∷ before) = now

resent_phase : (s t : ℕ) (bytes : ArrayVec ℕ) (o : Entry) (at : List ℕ) → IsSentAt s t bytes o → (resent_entry at o).phase ≡ Outstanding (latest s at) t (length at) bytes
resent_phase s t bytes o [] sent = sent
resent_phase s t bytes o (now ∷ before) sent =
    let counts : length before + 1 ≡ length (now ∷ before) = omega arith in
    ap (λ (p : Phase). retransmitted_phase now p) (resent_phase s t bytes o before sent) ∙ ap (λ (n : ℕ). Outstanding now t n bytes) counts

resent_endpoint : (o : Entry) (at : List ℕ) → (resent_entry at o).endpoint ≡ o.endpoint
resent_endpoint o [] = refl
resent_endpoint o (now ∷ before) = resent_endpoint o before

again : (s t : ℕ) (bytes : ArrayVec ℕ) (o : Entry) (at : List ℕ) (b : Bool) → IsSentAt s t bytes o → nat_lt (length at) 4 ≡ b → retransmission (resent_entry at o) ≡ (if b then Some (record { to = o.endpoint; bytes = bytes }) else None)
again s t bytes o at b sent few =
    ap (λ (p : Phase). retransmission_in (resent_entry at o).endpoint p) (resent_phase s t bytes o at sent)
    ∙ (λ i. if few i then Some (record { to = resent_endpoint o at i; bytes = bytes }) else None)

pub sent_again : (s t : ℕ) (bytes : ArrayVec ℕ) (o : Entry) (at : List ℕ) → IsSentAt s t bytes o → length at < 4 → retransmission (resent_entry at o) ≡ Some (record { to = o.endpoint; bytes = bytes })
sent_again s t bytes o at sent few = again s t bytes o at true sent (lt-ltb (length at) 4 few)

pub removed_at_last : (later s t : ℕ) (bytes : ArrayVec ℕ) (o : Entry) (at : List ℕ) → IsSentAt s t bytes o → length at ≡ 4 → timed_out later (resent_entry at o) ≡ []
removed_at_last later s t bytes o at sent all =
    let none = again s t bytes o at false sent (false_from_ne_true (nat_lt (length at) 4) (λ e. let lt = ltb-true (length at) 4 e in absurd (omega (arith, lt, all)))) in
    ap (λ (e : Option Emission). timed_out_by e later (resent_entry at o)) none
