-- Reports: counts of a server's datagrams and notifications, and their text.
use Rattle.std.specs.Prelude.{◌+◌, ◌==◌, ℕ, Bool, true, false, List, ◌∷◌, ◌++◌, codes}
use Rattle.std.specs.Fmt.{decimal}
use Rattle.coap_msg.specs.Codes.{code}
use Rattle.coap_msg.specs.declared.types.Emission.{Emission}
use Rattle.fc_front.specs.declared.front.Handled.{Handled}
use Rattle.fc_front.specs.declared.front.Handled.TheVariants.{Reply}
use Rattle.fc_observe.specs.declared.observers.Ticked.{Ticked}
use Rattle.fc_observe.specs.declared.observers.Ticked.TheVariants.{Quiet, Removed, Resend}
use Rattle.fc_server.specs.Gauges.{gauges_text, no_gauges}
use Rattle.fc_server.specs.Notified.{Notified, is_given}
use Rattle.fc_backend.specs.Answers.{saturated}
use Rattle.fc_record.specs.declared.report.Report.{Report}

-- ---- counts

-- no call was counted, and nothing is held.
abbrev pub nothing_counted : Report
nothing_counted = record { received = 0; forbidden = 0; unavailable = 0; notified = 0; resent = 0; removed = 0; gauges = no_gauges }

abbrev pub one_more_if : Bool → ℕ → ℕ
one_more_if true count = saturated (count + 1)
one_more_if false count = count

-- the second byte of a message, which is its code (RFC 7252, section 3).
abbrev pub second_byte : List ℕ → ℕ
second_byte (first ∷ byte ∷ rest) = byte
second_byte other = 0

-- one more response, by its code: 4.03 (Forbidden), 5.03 (Service Unavailable), or another.
abbrev pub response_counted : Emission → Report → Report
response_counted reply r = record r {
  forbidden = one_more_if (second_byte reply.bytes.items == code 4 3) r.forbidden;
  unavailable = one_more_if (second_byte reply.bytes.items == code 5 3) r.unavailable;
}

-- one more datagram, and its immediate response, if it has one.
abbrev pub datagram_counted : Handled → Emission → Report → Report
datagram_counted Reply reply r = response_counted reply (record r { received = saturated (r.received + 1) })
datagram_counted other reply r = record r { received = saturated (r.received + 1) }

-- the result of a shard's tick: one more notification that is retransmitted, one more observer that
-- is removed, or nothing.
abbrev pub tick_counted : Ticked → Report → Report
tick_counted (Resend emission) r = record r { resent = saturated (r.resent + 1) }
tick_counted Removed r = record r { removed = saturated (r.removed + 1) }
tick_counted Quiet r = r

-- one more notification lease, if one was granted.
abbrev pub lease_counted : Notified → Report → Report
lease_counted told r = record r { notified = one_more_if (is_given told) r.notified }

-- ---- the text

-- the counts of a report, as
-- `report received=1204 forbidden=1 unavailable=3 notified=40 resent=2 removed=1`.
abbrev pub counts_text : Report → List ℕ
counts_text r =
    codes "report received=" ++ (decimal r.received ++ (codes " forbidden=" ++ (decimal r.forbidden ++ (codes " unavailable=" ++ (decimal r.unavailable
    ++ (codes " notified=" ++ (decimal r.notified ++ (codes " resent=" ++ (decimal r.resent ++ (codes " removed=" ++ decimal r.removed))))))))))

-- the line of a report: its counts, and its gauges, as ` offloaded=7 exchanges=12/1024
-- transfers=1/16 observers/7=2`.
abbrev pub report_text : Report → List ℕ
report_text r = counts_text r ++ gauges_text r.gauges
