use Rattle.std.proofs.Common.{rules, ◌∷◌, [], ◌≡◌, ◌≢◌, length, ap, ◌∙◌}
use Rattle.std.proofs.lemmas.List.{length-map}
use Rattle.geo_exact.specs.Rings.{begun_at_least}
use Rattle.shp_files.specs.LayerFile.{rings_of, numbered}
use Rattle.city_layers.specs.TilingFiles.{told_of_city}
use Rattle.geo_exact.proofs.PassedOn.{passed_on, passed_match}
use Rattle.city_layers.proofs.TilingFaults.{city_unread, city_counted, no_city, same_city, city_refused}
use Rattle.city_layers.proofs.TilingFaults.{told_city_first, told_city_memory, Tells}
use Rattle.city_layers.proofs.tiles.read_city.Goals as goal

pub returns-in_err-rings-clause-reads : goal.returns-in_err-rings-clause-reads
returns-in_err-rings-clause-reads g c = λ corners h.
    passed_match _ _ _ _ c.from_residual.ensures.1 (c.in_err-rings.ensures.reads (h.ring ∷ [])
    (rw (c.as_slice.ensures.value, c.index_bytes.ensures.bytes) h.is_only))

pub returns-in_err-rings-clause-refuses : goal.returns-in_err-rings-clause-refuses
returns-in_err-rings-clause-refuses g c = λ fault h.
    passed_on _ _ _ c.from_residual.ensures.1 (city_unread _ _ _
    (λ rings k. c.in_err-rings.ensures.reads rings (rw (c.as_slice.ensures.value, c.index_bytes.ensures.bytes) k))
    (λ first k. c.in_err-rings.ensures.refuses first (rw (c.as_slice.ensures.value, c.index_bytes.ensures.bytes) k))
    fault h)

pub returns-then-count-ne1-clause-reads : goal.returns-then-count-ne1-clause-reads
returns-then-count-ne1-clause-reads g c = λ corners h.
    let n : length c.in_ok-rings.rings.items ≡ c.len-count.result = search rules in
    let e : length (rings_of c.in_ok-rings.rings.items) ≡ c.len-count.result =
    length-map c.in_ok-rings.rings.items (λ ring. numbered ring.number ring.corners) ∙ n in
    let ne : c.len-count.result ≢ 1 = search rules in
    absurd (no_city _ _ _ _ e ne
    (λ rings k. c.in_ok-rings.ensures.reads rings (rw (c.as_slice.ensures.value, c.index_bytes.ensures.bytes) k)) corners h)

pub returns-then-count-ne1-clause-refuses : goal.returns-then-count-ne1-clause-refuses
returns-then-count-ne1-clause-refuses g c = λ fault h.
    let n : length c.in_ok-rings.rings.items ≡ c.len-count.result = search rules in
    let e : length (rings_of c.in_ok-rings.rings.items) ≡ c.len-count.result =
    length-map c.in_ok-rings.rings.items (λ ring. numbered ring.number ring.corners) ∙ n in
    let ne : c.len-count.result ≢ 1 = search rules in
    city_counted _ _ _ _ e ne
    (λ rings k. c.in_ok-rings.ensures.reads rings (rw (c.as_slice.ensures.value, c.index_bytes.ensures.bytes) k))
    (λ first k. c.in_ok-rings.ensures.refuses first (rw (c.as_slice.ensures.value, c.index_bytes.ensures.bytes) k))
    fault h

pub returns-in-Ok-clause-reads : goal.returns-in-Ok-clause-reads
returns-in-Ok-clause-reads g c = λ corners h.
    let one : c.in_ok-rings.rings.items ≡ c.in-Some.ring ∷ [] = search rules in
    c.in-Ok.ensures.ring ∙ same_city _ _ _ (numbered c.in-Some.ring.number c.in-Some.ring.corners) (ap rings_of one)
    (λ rings k. c.in_ok-rings.ensures.reads rings (rw (c.as_slice.ensures.value, c.index_bytes.ensures.bytes) k)) corners h

pub returns-in-Ok-clause-refuses : goal.returns-in-Ok-clause-refuses
returns-in-Ok-clause-refuses g c = λ fault h.
    let one : c.in_ok-rings.rings.items ≡ c.in-Some.ring ∷ [] = search rules in
    city_refused _ _ _ (numbered c.in-Some.ring.number c.in-Some.ring.corners) (λ told. ⊥) (ap rings_of one)
    (λ rings k. c.in_ok-rings.ensures.reads rings (rw (c.as_slice.ensures.value, c.index_bytes.ensures.bytes) k))
    (λ first k. c.in_ok-rings.ensures.refuses first (rw (c.as_slice.ensures.value, c.index_bytes.ensures.bytes) k))
    c.in-Ok.ensures.refuses fault h

pub returns-clause-reads : goal.returns-clause-reads
returns-clause-reads g c = λ corners h.
    let one : c.in_ok-rings.rings.items ≡ c.in-Some.ring ∷ [] = search rules in
    let same = same_city _ _ _ (numbered c.in-Some.ring.number c.in-Some.ring.corners) (ap rings_of one)
    (λ rings k. c.in_ok-rings.ensures.reads rings (rw (c.as_slice.ensures.value, c.index_bytes.ensures.bytes) k)) corners h in
    c.from.ensures ∙ told_city_memory corners _ h.is_city (rw (← same) c.in-Err.ensures.fault)

pub returns-clause-refuses : goal.returns-clause-refuses
returns-clause-refuses g c = λ fault h.
    let one : c.in_ok-rings.rings.items ≡ c.in-Some.ring ∷ [] = search rules in
    rw c.from.ensures (city_refused _ _ _ (numbered c.in-Some.ring.number c.in-Some.ring.corners)
    (Tells (told_of_city c.in-Err.fault)) (ap rings_of one)
    (λ rings k. c.in_ok-rings.ensures.reads rings (rw (c.as_slice.ensures.value, c.index_bytes.ensures.bytes) k))
    (λ first k. c.in_ok-rings.ensures.refuses first (rw (c.as_slice.ensures.value, c.index_bytes.ensures.bytes) k))
    (λ told k. told_city_first (begun_at_least c.in-Some.ring.corners) _ told k (c.in-Err.ensures.refuses told k)) fault h)
