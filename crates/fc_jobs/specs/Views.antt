-- The channel that a pass, or an end, belongs to.
use Rattle.crossbeam_channel.specs.Claims.{Pass}
use Rattle.crossbeam_channel.specs.declared.flavors.array.Rows.{Rows}
use Rattle.crossbeam_channel.specs.declared.flavors.array.Key.{Key}
use Rattle.crossbeam_channel.specs.declared.flavors.array.Doing.{Doing}
use Rattle.atomic_table.specs.declared.badge.Badge.{Badge}
use Rattle.fc_jobs.specs.declared.protocol.Hand.{Hand}
use Rattle.fc_jobs.specs.declared.protocol.Numbered.{Numbered}
use Rattle.fc_jobs.specs.Ends.{Channel}

abbrev pub channel_of : {T : Type 0} → Pass (Numbered T) (Hand T) → Channel T
channel_of p = record { stamps = p.table_id; messages = p.me.0.of }

module _ {T Q M L A : Type 0} where
  abbrev pub channel_at : Rows (Badge (Key (Numbered T))) (Doing (Numbered T) (Hand T)) Q M (Key (Numbered T)) L A → Channel T
  channel_at c = record { stamps = c.stamps.shared.table_id; messages = c.stamps.shared.key }
