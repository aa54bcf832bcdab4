-- How long each table is, where none is short.
use Rattle.std.proofs.Common.{◌≡◌, true}
use Rattle.std.proofs.lemmas.Bool.{and_parts, leb-true}
use Rattle.settlement.specs.Shape.{Long, shaped}
use Rattle.settlement.specs.State.{Lists, Sizes}

pub long : (z : Sizes) (t : Lists) → shaped z t ≡ true → Long z t
unfolding shaped
long z t h =
    let r = and_parts _ _ h in
    let a = and_parts _ _ r.0 in
    let b = and_parts _ _ a.1 in
    let c = and_parts _ _ b.1 in
    let d = and_parts _ _ c.1 in
    let e = and_parts _ _ r.1 in
    let f = and_parts _ _ e.1 in
    let g = and_parts _ _ f.1 in
    let i = and_parts _ _ g.1 in
    let j = and_parts _ _ i.1 in
    let k = and_parts _ _ j.1 in
    record {
      none_short = h;
      points = leb-true _ _ a.0;
      entry_measurements = leb-true _ _ b.0;
      zone_measurements = leb-true _ _ c.0;
      weather = leb-true _ _ d.0;
      profiles = leb-true _ _ d.1;
      inputs = leb-true _ _ e.0;
      outputs = leb-true _ _ f.0;
      prevailing = leb-true _ _ g.0;
      zone_figures = leb-true _ _ i.0;
      balances = leb-true _ _ j.0;
      reconciliations = leb-true _ _ k.0;
      months = leb-true _ _ k.1;
    }
