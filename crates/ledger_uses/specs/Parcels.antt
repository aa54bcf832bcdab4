-- What tells one parcel from another, and to which week it belongs.
use Rattle.std.specs.Prelude.{ℕ, Bool, ◌&&◌, ◌==◌}
use Rattle.ledger_uses.specs.declared.Parcel.{Parcel}
use Rattle.ledger_uses.specs.declared.Place.{Place}

abbrev pub place_of : Parcel → Place
place_of n = record { week = n.week; shelf = n.shelf; tray = n.tray }

abbrev pub week_of : Place → ℕ
week_of p = p.week

abbrev pub placed : Place → Parcel → Bool
placed p n = n.week == p.week && (n.shelf == p.shelf && n.tray == p.tray)

abbrev pub in_week : ℕ → Parcel → Bool
in_week w n = n.week == w
