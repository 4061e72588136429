use Rattle.fleet_office.proofs.hall_state.HallState.look.Goals as goal

pub returns-clause-idle : goal.returns-clause-idle
returns-clause-idle g c = rw (← c.self.view_is) c.is_idle.ensures

pub returns-clause-eldest : goal.returns-clause-eldest
returns-clause-eldest g c = rw (← c.self.view_is) c.eldest.ensures

pub returns-clause-told : goal.returns-clause-told
returns-clause-told g c = rw (← c.self.view_is) c.idle_within.ensures.told

pub returns-clause-idle_within : goal.returns-clause-idle_within
returns-clause-idle_within g c = rw (← c.self.view_is) c.idle_within.ensures.exact

pub returns-clause-within : goal.returns-clause-within
returns-clause-within g c = rw (← c.self.view_is) c.idle_within.ensures.idle

pub returns-clause-chapter : goal.returns-clause-chapter
returns-clause-chapter g c = rw (← c.self.view_is) c.chapter-chapter.ensures.number

pub returns-clause-tick : goal.returns-clause-tick
returns-clause-tick g c = rw (← c.self.view_is) c.clock.ensures
