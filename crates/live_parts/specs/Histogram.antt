-- How often something took how long, in the text form that Prometheus reads.
use Rattle.std.specs.Prelude.{ℕ, ◌/◌, ◌%◌, List, ◌++◌, codes, decimal, map, nat_lt, if◌then◌else◌}
use Rattle.std.specs.List.{flat_map}
use Rattle.live_parts.specs.declared.histogram.Bucket.{Bucket}
use Rattle.live_parts.specs.declared.histogram.Histogram.{Histogram}
use Rattle.live_parts.specs.Notices.{capped}

-- one more in a bucket whose bound this does not pass
abbrev pub noted_in : ℕ → Bucket → Bucket
noted_in micros b = if nat_lt b.most micros then b else record b { count = capped b.count 1 }

-- one more, that took this many microseconds
abbrev pub noted : ℕ → Histogram → Histogram
noted micros h = record { buckets = map (noted_in micros) h.buckets; count = capped h.count 1; micros = capped h.micros micros }

-- microseconds as seconds, with six digits after the point
abbrev pub seconds_text : ℕ → List ℕ
seconds_text micros =
    decimal (micros / 1000000) ++ (codes "." ++ (decimal (micros % 1000000 / 100000) ++ (decimal (micros % 1000000 / 10000 % 10) ++ (decimal (micros % 1000000 / 1000 % 10)
    ++ (decimal (micros % 1000000 / 100 % 10) ++ (decimal (micros % 1000000 / 10 % 10) ++ decimal (micros % 1000000 % 10)))))))

-- how many took no longer than a bound
abbrev pub bucket_line : List ℕ → Bucket → List ℕ
bucket_line name b = name ++ (codes "_bucket{le=\"" ++ (seconds_text b.most ++ (codes "\"} " ++ (decimal b.count ++ codes "\n"))))

-- what a histogram is: its name and its help
abbrev pub begin_text : List ℕ → List ℕ → List ℕ
begin_text name help = codes "# HELP " ++ (name ++ (codes " " ++ (help ++ (codes "\n# TYPE " ++ (name ++ codes " histogram\n")))))

-- how many there were in all, and how long they took together
abbrev pub end_text : List ℕ → Histogram → List ℕ
end_text name h =
    name ++ (codes "_bucket{le=\"+Inf\"} " ++ (decimal h.count ++ (codes "\n" ++ (name ++ (codes "_sum " ++ (seconds_text h.micros ++ (codes "\n" ++ (name ++ (codes "_count " ++ (decimal h.count ++ codes "\n"))))))))))

-- a histogram: what it is, its buckets, and how many there were in all
abbrev pub histogram_text : List ℕ → List ℕ → Histogram → List ℕ
histogram_text name help h = begin_text name help ++ flat_map (bucket_line name) h.buckets ++ end_text name h
