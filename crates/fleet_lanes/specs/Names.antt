-- Which rings a client and a hall end are on. Ends of the same rings have the same name.
use Rattle.std.specs.Prelude.{ℕ}
use denote.RawPtr.{Ptr}
use Rattle.rtrb.specs.declared.producer.Producer.{Producer}
use Rattle.rtrb.specs.declared.consumer.Consumer.{Consumer}

-- a ring over the allocator A: where its words and its slots lie, the ghost names of its two ends, and its allocator
pub record RingName (A : Type 0) : Type 0 where
  pub words : Ptr
  pub slots : Ptr
  pub names : ℕ × (ℕ × ℕ)
  pub heap : A

-- the two rings of a client
pub record LaneName (A : Type 0) : Type 0 where
  pub orders : RingName A
  pub notices : RingName A

module _ {T A P : Type 0} where
  -- the ring that the producer is on
  abbrev pub ring_of_producer : Producer T A P → RingName A
  ring_of_producer p = record { words = p.end.words; slots = p.end.slots; names = p.end.names; heap = p.end.heap }

  -- the ring that the consumer is on
  abbrev pub ring_of_consumer : Consumer T A P → RingName A
  ring_of_consumer c = record { words = c.end.words; slots = c.end.slots; names = c.end.names; heap = c.end.heap }
